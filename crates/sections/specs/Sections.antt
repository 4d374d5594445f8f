-- Document 02, order 6: the sections of a chain that is cut, the sum of their greatest latencies with one gap for each cut, and what the call answers.
use Rattle.std.specs.Prelude.{ℕ, ◌+◌, ◌-◌, ◌*◌, Bool, true, cond, ◌&&◌, List, [], ◌∷◌, map, ltb, length, take, drop, Err, Ok, Result}
use Rattle.refusal.specs.declared.Refusal.{Refusal}
use Rattle.refusal.specs.Refusals.{refusal}
use Rattle.ranges.specs.Entries.{sum}
use Rattle.task.specs.declared.Task.{Task}
use Rattle.task.specs.declared.Place.{Place}
use Rattle.chain.specs.declared.Chain.{Chain}
use Rattle.chain.specs.Chains.{placed, tasks_of}
use Rattle.chain.specs.Checks.{verdict_of, verdict_in}
use Rattle.schedule.specs.Schedules.{padded}
use Rattle.latency.specs.Latency.{greatest_latency}
use Rattle.sections.specs.declared.Sections.{Sections}

-- "c parts place c from the next": the sections after place `from`, where the places after it, or their tasks, are l.
unfoldable pub parts_from : {A : Type 0} → ℕ → List A → List ℕ → List (List A)
parts_from from l [] = l ∷ []
parts_from from l (c ∷ cuts) = take (c - from) l ∷ parts_from c (drop (c - from) l) cuts

abbrev pub sections_of : {A : Type 0} → List A → List ℕ → List (List A)
sections_of l cuts = parts_from 0 l cuts

-- The cuts rise strictly, the first of them above `from`, and lie below n.
unfoldable pub rises_to : ℕ → ℕ → List ℕ → Bool
rises_to n from [] = true
rises_to n from (c ∷ cuts) = ltb from c && (ltb c n && rises_to n c cuts)

-- "Cuts that do not rise strictly, or lie outside 1 to places − 1" do not pass.
abbrev pub valid_cuts : List Place → List ℕ → Bool
valid_cuts l cuts = rises_to (length l) 0 cuts

-- "each section is analysed as a chain with its own warm-up": the greatest latency of each, in order.
abbrev pub latencies_of : List Place → List ℕ → List ℕ
latencies_of l cuts = map greatest_latency (sections_of l cuts)

-- "the sum of the greatest latencies plus one gap for each cut"
abbrev pub sum_of : ℕ → List Place → List ℕ → ℕ
sum_of gap l cuts = sum (latencies_of l cuts) + length cuts * gap

-- What is answered: the sections' greatest latencies with 0 past them, their number, and the sum.
abbrev pub answered : ℕ → List Place → List ℕ → Sections
answered gap l cuts = record { latencies = padded 12 0 (latencies_of l cuts); count = length (sections_of l cuts); sum = sum_of gap l cuts }

-- 17 "after the chain's own checks", 8, 5 and 7. n is the number of places.
abbrev pub after_cuts : ℕ → List ℕ → Result ℕ Refusal → Result ℕ Refusal
after_cuts n cuts (Err r) = Err r
after_cuts n cuts (Ok h) = cond (rises_to n 0 cuts) (Ok h) (Err (refusal 17 0))

-- What the call answers, by what its checks say.
unfoldable pub sections_after : ℕ → List Place → List ℕ → Result ℕ Refusal → Result Sections Refusal
sections_after gap l cuts (Ok h) = Ok (answered gap l cuts)
sections_after gap l cuts (Err r) = Err r

-- The call on a chain: the chain's own checks, then 17, then the answer.
abbrev pub sections_answer : Chain → List ℕ → Result Sections Refusal
sections_answer c cuts = sections_after c.gap (tasks_of c) cuts (after_cuts (length (tasks_of c)) cuts (verdict_of c))

-- The same of a gap and a list of tasks, one for each place.
abbrev pub sections_in : ℕ → List Task → List ℕ → Result Sections Refusal
sections_in g l cuts = sections_after g (placed g l) cuts (after_cuts (length (placed g l)) cuts (verdict_in g l))
