-- Code 0 is a success: a refusal has a number of its own.
use Rattle.std.specs.Prelude.{ℕ, ◌-◌, ◌≡◌, refl, Bool, true, false, cond, leb, ltb, length, Err, Ok, Result}
use Rattle.std.proofs.Common.{arith, sym, ap, ◌∙◌}
use Rattle.maker.specs.declared.Unmade.TheVariants.{Short}
use Rattle.refusal.specs.declared.Refusal.{Refusal}
use Rattle.refusal.specs.Refusals.{refusal}
use Rattle.chain.specs.declared.Chain.{Chain}
use Rattle.chain.specs.Chains.{tasks_of}
use Rattle.chain.specs.Checks.{verdict_of}
use Rattle.chain.proofs.CheckLaws.{SmallVerdict, verdict_small}
use Rattle.schedule.specs.declared.Schedule.{Schedule}
use Rattle.schedule_checks.specs.Checks.{choice_of, chosen_of}
use Rattle.schedule_checks.proofs.ChosenChain.{is_chosen, is_refused}
use Rattle.timing.specs.Answers.{upper_tick, span_after}
use Rattle.partition.specs.Partitions.{anchors_of}
use Rattle.maker.specs.declared.Figures.{Figures}
use Rattle.maker.specs.Making.{judged, figures_of, made_after, made_of}
use Rattle.capi_timing.specs.Calls.{verdict_code, verdict_hyper, span_code, span_ticks}
use Rattle.capi_maker.specs.Calls.{made_code}
use Rattle.capi_maker.proofs.Gives.{after_small}
use Rattle.capi_file.specs.Calls.{chosen_code}

-- mo_check: code 0 is an accepted chain.
pub check_zero : (c : Chain) → verdict_code (verdict_of c) ≡ 0 → verdict_of c ≡ Ok (verdict_hyper (verdict_of c))
check_zero c = go (verdict_of c) (verdict_small c)
  where
    go : (v : Result ℕ Refusal) → SmallVerdict v → verdict_code v ≡ 0 → v ≡ Ok (verdict_hyper v)
    go (Ok h) k e = refl
    go (Err r) k e = absurd (omega arith)

-- mo_delay and mo_age: code 0 is an answer in ticks.
pub span_zero : (c : Chain) (from t span : ℕ) → span_code (span_after (verdict_of c) from t span) ≡ 0
    → span_after (verdict_of c) from t span ≡ Ok (span_ticks (span_after (verdict_of c) from t span))
unfolding span_after
span_zero c from t span = go (verdict_of c) (verdict_small c)
  where
    answer : Bool → Bool → Result ℕ Refusal
    answer a b = cond a (Err (refusal 12 0)) (cond b (Err (refusal 13 0)) (Ok span))

    tick : (a b : Bool) → span_code (answer a b) ≡ 0 → answer a b ≡ Ok (span_ticks (answer a b))
    tick true b e = absurd (omega arith)
    tick false true e = absurd (omega arith)
    tick false false e = refl

    go : (v : Result ℕ Refusal) → SmallVerdict v → span_code (span_after v from t span) ≡ 0 → span_after v from t span ≡ Ok (span_ticks (span_after v from t span))
    go (Ok h) k e = tick (ltb t from) (ltb upper_tick t) e
    go (Err r) k e = absurd (omega arith)

-- mo_make_table: code 0 is a whole table.
pub record Whole (c : Chain) (p a b : ℕ) : Type 0 where
  pub figures : Figures
  pub made : made_of c p a b ≡ Ok figures

pub made_zero : (c : Chain) (p a b : ℕ) → made_code (made_of c p a b) ≡ 0 → Whole c p a b
unfolding judged made_after
made_zero c p a b = go (judged c p a b) refl (after_small (verdict_of c) (verdict_small c) c.places p a b)
  where
    go : (v : Result ℕ Refusal) → judged c p a b ≡ v → SmallVerdict v → made_code (made_after c p a v) ≡ 0 → Whole c p a b
    go (Err r) j k e = absurd (omega arith)
    go (Ok h) j k e = fits (leb (length (anchors_of (tasks_of c) (p - 1) h)) a) refl e
      where
        fits : (t : Bool) → leb (length (anchors_of (tasks_of c) (p - 1) h)) a ≡ t → made_code (cond t (Ok (figures_of c p h)) (Err (Short (figures_of c p h)))) ≡ 0 → Whole c p a b
        fits true l e = record { figures = figures_of c p h; made = rw (j, l) refl }
        fits false l e = absurd (omega arith)

-- mo_chain_of_schedule: code 0 is a chain that was chosen.
pub chosen_zero : (s : Schedule) (n : ℕ) → chosen_code (chosen_of s n) ≡ 0 → (choice_of s n).number ≡ 0
chosen_zero s n = go (chosen_of s n) refl
  where
    go : (x : Result Chain Refusal) → x ≡ chosen_of s n → chosen_code x ≡ 0 → (choice_of s n).number ≡ 0
    go (Ok c) e k = (is_chosen s n c e).0
    go (Err r) e k = let i = is_refused s n r e in ap (λ (q : Refusal). q.number) (sym i.1) ∙ omega arith
