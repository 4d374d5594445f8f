-- What making leaves, as C gets it; and every refusal fits one number.
use Rattle.std.specs.Prelude.{Err, Ok, Result}
use Prim.Native.Nat.{ℕ, ◌-◌, ◌≤◌, ◌<◌}
use native.Mathlib.Omega.{arith}
use mathlib.Core.Path.{◌≡◌, sym, ap, ◌∙◌, subst}
use mathlib.Core.Bool.{Bool, true, false, cond, ◌&&◌}
use mathlib.Core.List.{List}
use lib.Dec.{leb, eqb}
use lib.ListN.{length}
use Rattle.maker.specs.declared.Unmade.TheVariants.{Refused, Short}
use Rattle.maker.specs.declared.Unmade.{Unmade}
use Rattle.maker.specs.declared.Figures.{Figures}
use Rattle.refusal.specs.declared.Refusal.{Refusal}
use Rattle.refusal.specs.Refusals.{refusal}
use Rattle.chain.specs.declared.Chain.{Chain}
use Rattle.chain.specs.Chains.{tasks_of}
use Rattle.chain.specs.Checks.{verdict_of}
use Rattle.chain.proofs.CheckLaws.{SmallVerdict, verdict_small}
use Rattle.partition.specs.Partitions.{anchors_of}
use Rattle.maker.specs.Making.{after_checks, judged, figures_of, made_after, Makes}
use Rattle.capi_maker.specs.Calls.{made_code, made_numbers, GivesTable}

pub gives : (c : Chain) (p : ℕ) (s l s' l' : List ℕ) (m : Result Figures Unmade) → Makes c p s l s' l' m → (code : ℕ) (numbers : List ℕ) → code ≡ made_code m → numbers ≡ made_numbers m
    → GivesTable c p s l code s' l' numbers
gives c p s l s' l' m makes code numbers a b = record {
  answers = a ∙ ap made_code makes.answer;
  gives_figures = b ∙ ap made_numbers makes.answer;
  leaves_starts = makes.leaves_starts;
  leaves_latencies = makes.leaves_latencies;
}

pub after_small : (v : Result ℕ Refusal) → SmallVerdict v → (places p a b : ℕ) → SmallVerdict (after_checks v places p a b)
after_small (Err r) s places p a b = s
after_small (Ok h) s places p a b = go (leb 1 p && leb p places) (eqb a b)
  where
    go : (x y : Bool) → SmallVerdict (cond x (cond y (Ok h) (Err (refusal 10 0))) (Err (refusal 9 0)))
    go true true = tt
    go true false = (omega arith, omega arith, omega arith)
    go false y = (omega arith, omega arith, omega arith)

refused_small : (c : Chain) (p a : ℕ) (v : Result ℕ Refusal) → SmallVerdict v → (r : Refusal) → Err (Refused r) ≡ made_after c p a v → (r.number < 256) × (r.place ≤ 1000000000)
unfolding made_after
refused_small c p a (Err x) s r e =
    let q : x ≡ r = cc in
    let k : SmallVerdict (Err r) = subst (λ (y : Refusal). SmallVerdict (Err y)) q s in
    (k.0, omega (arith, k.1))
refused_small c p a (Ok h) s r e = go (leb (length (anchors_of (tasks_of c) (p - 1) h)) a) e
  where
    go : (t : Bool) → Err (Refused r) ≡ cond t (Ok (figures_of c p h)) (Err (Short (figures_of c p h))) → (r.number < 256) × (r.place ≤ 1000000000)
    go true e = absurd (let z : ◌≡◌ {A = ℕ} 0 1 = cc in omega arith)
    go false e = absurd (let z : ◌≡◌ {A = ℕ} 0 1 = cc in omega arith)

pub code_fits : (c : Chain) (p : ℕ) (s l s' l' : List ℕ) (m : Result Figures Unmade) (r : Refusal) → Makes c p s l s' l' m → m ≡ Err (Refused r) → (r.number < 256) × (r.place ≤ 1000000000)
unfolding judged
code_fits c p s l s' l' m r makes e =
    refused_small c p (length s) (judged c p (length s) (length l)) (after_small (verdict_of c) (verdict_small c) c.places p (length s) (length l)) r (sym e ∙ makes.answer)
