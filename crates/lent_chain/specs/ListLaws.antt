-- Laws of making from a lent list: its chain's tasks are the list, making from it is making from the chain by value, and a list of no record or of more than twelve is refused with 8.
use Rattle.std.specs.Prelude.{ℕ, ◌≤◌, ◌<◌, ◌≡◌, List, [], ◌∷◌, length, take, Err, Ok, Result}
use Rattle.std.proofs.Common.{arith, ◌∙◌, take_all, le-leb}
use Rattle.std.proofs.Math.Decide.{dec_le}
use Rattle.std.proofs.Math.Path.{refl, ap}
use Rattle.std.proofs.lemmas.Bool.{lt-leb}
use Rattle.maker.specs.declared.Unmade.TheVariants.{Refused}
use Rattle.refusal.specs.declared.Refusal.{Refusal}
use Rattle.maker.specs.declared.Unmade.{Unmade}
use Rattle.maker.specs.declared.Figures.{Figures}
use Rattle.refusal.specs.Refusals.{refusal}
use Rattle.task.specs.declared.Task.{Task}
use Rattle.chain.specs.declared.Chain.{Chain}
use Rattle.chain.specs.Chains.{zero_task, given_of, placed, tasks_of}
use Rattle.chain.specs.Checks.{verdict_for, verdict_of}
use Rattle.schedule.specs.Schedules.{padded}
use Rattle.schedule.specs.Padding.{take_padded}
use Rattle.table.specs.Anchors.{Anchor}
use Rattle.maker.specs.Making.{after_checks, judged, made_after, made_of, written_after, written_of, told_after, starts_of, latencies_of, overlay, Makes}
use Rattle.lent_chain.specs.LentList.{chain_of_list}

-- ---- a list of at most twelve records

-- is the chain's tasks, and its length is their number.
pub list_is_chain : (g : ℕ) (ts : List Task) → length ts ≤ 12 → given_of (chain_of_list g ts) ≡ ts
unfolding chain_of_list
list_is_chain g ts h = ap (λ (l : List Task). take (length ts) (padded 12 zero_task l)) (take_all 12 ts h) ∙ take_padded zero_task 12 ts h

pub places_of_list : (g : ℕ) (ts : List Task) → (chain_of_list g ts).places ≡ length ts
unfolding chain_of_list
places_of_list g ts = refl

-- ---- every other list is refused with 8, and the lists keep their content

pub other_verdict : (g : ℕ) (ts : List Task) → (1 ≤ length ts → length ts ≤ 12 → ⊥) → verdict_of (chain_of_list g ts) ≡ Err (refusal 8 0)
unfolding chain_of_list verdict_for
other_verdict g [] h = refl
other_verdict g (t ∷ ts) h =
    let many : 12 < length (t ∷ ts) = elim (dec_le (length (t ∷ ts)) 12) [
      | yes k ↦ absurd (h (omega arith) k)
      | no k ↦ omega arith
    ] in
    rw (le-leb 1 (length (t ∷ ts)) (omega arith), lt-leb (length (t ∷ ts)) 12 many)

pub other_refused : (g : ℕ) (ts : List Task) → (1 ≤ length ts → length ts ≤ 12 → ⊥) → (p a b : ℕ) → made_of (chain_of_list g ts) p a b ≡ Err (Refused (refusal 8 0))
unfolding judged made_after
other_refused g ts h p a b = rw (other_verdict g ts h)

pub other_unwritten : (g : ℕ) (ts : List Task) → (1 ≤ length ts → length ts ≤ 12 → ⊥) → (p a b : ℕ) → written_of (chain_of_list g ts) p a b ≡ []
unfolding judged written_after
other_unwritten g ts h p a b = rw (other_verdict g ts h)

-- ---- lent and by value are one

-- Making depends on a chain's tasks, the number of its places and its gap alone.
module _ (c d : Chain) (given : given_of c ≡ given_of d) (places : c.places ≡ d.places) (gaps : c.gap ≡ d.gap) where
  same : tasks_of c ≡ tasks_of d
  same = ap (λ (g : ℕ). placed g (given_of c)) gaps ∙ ap (placed d.gap) given

  same_verdict : verdict_of c ≡ verdict_of d
  same_verdict = ap (λ (n : ℕ). verdict_for n c.gap (given_of c)) places ∙ ap (λ (g : ℕ). verdict_for d.places g (given_of c)) gaps ∙ ap (verdict_for d.places d.gap) given

  same_judged : (p a b : ℕ) → judged c p a b ≡ judged d p a b
  unfolding judged
  same_judged p a b = ap (λ (v : Result ℕ Refusal). after_checks v c.places p a b) same_verdict ∙ ap (λ (n : ℕ). after_checks (verdict_of d) n p a b) places

  same_made : (p a : ℕ) (v : Result ℕ Refusal) → made_after c p a v ≡ made_after d p a v
  unfolding made_after
  same_made p a (Err r) = refl
  same_made p a (Ok h) = rw same

  same_told : (p a : ℕ) (v : Result ℕ Refusal) → told_after c p a v ≡ told_after d p a v
  unfolding told_after
  same_told p a (Err r) = refl
  same_told p a (Ok h) = rw same

  same_written : (p : ℕ) (v : Result ℕ Refusal) → written_after c p v ≡ written_after d p v
  unfolding written_after
  same_written p (Err r) = refl
  same_written p (Ok h) = rw same

  pub same_making : (p : ℕ) (s l s' l' : List ℕ) (r : Result Figures Unmade) → Makes c p s l s' l' r → Makes d p s l s' l' r
  same_making p s l s' l' r m =
      let j = same_judged p (length s) (length l) in
      let w : written_of c p (length s) (length l) ≡ written_of d p (length s) (length l) = same_written p (judged c p (length s) (length l)) ∙ ap (written_after d p) j in
      record {
        answer = m.answer ∙ same_made p (length s) (judged c p (length s) (length l)) ∙ ap (made_after d p (length s)) j;
        tells = m.tells ∙ same_told p (length s) (judged c p (length s) (length l)) ∙ ap (told_after d p (length s)) j;
        leaves_starts = m.leaves_starts ∙ ap (λ (x : List Anchor). overlay (starts_of x) s) w;
        leaves_latencies = m.leaves_latencies ∙ ap (λ (x : List Anchor). overlay (latencies_of x) l) w;
      }

-- So what is made from a chain's tasks, lent as a list, is what is made from the chain.
pub lent_as_value : (c : Chain) → length (given_of c) ≡ c.places → c.places ≤ 12 → (p : ℕ) (s l s' l' : List ℕ) (r : Result Figures Unmade) → Makes (chain_of_list c.gap (given_of c)) p s l s' l' r → Makes c p s l s' l' r
unfolding chain_of_list
lent_as_value c e h = same_making (chain_of_list c.gap (given_of c)) c (list_is_chain c.gap (given_of c) (omega arith)) (places_of_list c.gap (given_of c) ∙ e) refl
