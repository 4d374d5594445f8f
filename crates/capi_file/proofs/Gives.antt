-- What each call gives when it returns, and that every refusal fits one number.
use Rattle.std.specs.Prelude.{Err, Ok, Result}
use Prim.Native.Nat.{ℕ, ◌≤◌, ◌<◌}
use native.Mathlib.Omega.{arith}
use mathlib.Core.Path.{◌≡◌, sym, ap, ◌∙◌}
use mathlib.Core.List.{List}
use lib.ListN.{length}
use Rattle.refusal.specs.declared.Refusal.{Refusal}
use Rattle.refusal.specs.Refusals.{code_of}
use Rattle.schedule.specs.declared.Schedule.{Schedule}
use Rattle.file_reader.specs.Reading.{read_file}
use Rattle.file_reader.proofs.Offsets.{read_small}
use Rattle.file_writer.specs.Writing.{Writes}
use Rattle.file_writer.specs.Positions.{written_small}
use Rattle.chain.specs.declared.Chain.{Chain}
use Rattle.schedule_checks.specs.Checks.{chosen_of}
use Rattle.schedule_checks.proofs.Positions.{choice_small}
use Rattle.schedule_checks.proofs.ChosenChain.{is_refused}
use Rattle.capi_file.specs.Calls.{read_code, read_tasks, read_chains, read_places, read_counts, GivesSchedule, written_code, written_length, GivesFile, chosen_code, chosen_flat, chosen_places, GivesChain}

-- ---- reading

pub read_fits : (l : List ℕ) (f : Result Schedule Refusal) (r : Refusal) → f ≡ read_file l → f ≡ Err r → (r.number < 256) × (r.place ≤ 1000000000)
read_fits l f r is e = let k = read_small l r (sym e ∙ is) in (omega (arith, k.number), omega (arith, k.place))

pub read_given : (f g : Result Schedule Refusal) (code : ℕ) (tasks chains places counts : List ℕ) → g ≡ f → code ≡ read_code g → tasks ≡ read_tasks g
    → chains ≡ read_chains g → places ≡ read_places g → counts ≡ read_counts g → GivesSchedule f code tasks chains places counts
read_given f g code tasks chains places counts e c t u v n = record {
  answers = c ∙ ap read_code e;
  gives_tasks = t ∙ ap read_tasks e;
  gives_chains = u ∙ ap read_chains e;
  gives_places = v ∙ ap read_places e;
  gives_counts = n ∙ ap read_counts e;
}

-- ---- writing

module _ (s t : Schedule) (old new : List ℕ) (w : Result ℕ Refusal) (same : s ≡ t) (d : Writes s old w new) where
  again : Writes t old w new
  again = rw same at d

  pub written_bytes : (n : ℕ) → w ≡ Ok n → GivesFile t old 0 new n
  written_bytes n e = record {
    answers = ap written_code (sym e ∙ again.answers);
    leaves = again.leaves;
    gives_length = ap written_length (sym e ∙ again.answers);
  }

  pub written_refused : (r : Refusal) (code : ℕ) → w ≡ Err r → code ≡ code_of r → GivesFile t old code new 0
  written_refused r code e c = record {
    answers = c ∙ ap written_code (sym e ∙ again.answers);
    leaves = again.leaves;
    gives_length = ap written_length (sym e ∙ again.answers);
  }

  pub written_fits : (r : Refusal) → w ≡ Err r → (r.number < 256) × (r.place ≤ 1000000000)
  written_fits r e = let h = rw (sym again.answers ∙ e) at (written_small t (length old)) in (omega arith, omega arith)

-- ---- choosing

module _ (s t : Schedule) (n : ℕ) (c : Result Chain Refusal) (same : s ≡ t) (is : c ≡ chosen_of s n) where
  chosen : c ≡ chosen_of t n
  chosen = is ∙ ap (λ (x : Schedule). chosen_of x n) same

  pub chosen_fits : (r : Refusal) → c ≡ Err r → (r.number < 256) × (r.place ≤ 1000000000)
  chosen_fits r e = let k = is_refused t n r (sym e ∙ chosen) in rw k.1 (let r = choice_small t n in (omega arith, omega arith))

  pub chain_given : (g : Result Chain Refusal) (code : ℕ) (flat : List ℕ) (places : ℕ) → c ≡ g → code ≡ chosen_code g → flat ≡ chosen_flat g → places ≡ chosen_places g → GivesChain t n code flat places
  chain_given g code flat places e u v w = record {
    answers = u ∙ ap chosen_code (sym e ∙ chosen);
    gives_flat = v ∙ ap chosen_flat (sym e ∙ chosen);
    gives_places = w ∙ ap chosen_places (sym e ∙ chosen);
  }
