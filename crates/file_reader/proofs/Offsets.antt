-- A file is accepted, or refused with 1 to 6 at an offset of at most 698 (`read_as`). The longest file has 698 bytes.
use Rattle.std.specs.Prelude.{ℕ, zero, suc, ◌+◌, ◌*◌, ◌≤◌, ◌≡◌, refl, List, [], ◌∷◌, ◌++◌, map, length, drop, Err, Ok, Result}
use Rattle.std.proofs.Common.{arith, length-append, lt-ltb, le-ltb}
use Rattle.std.proofs.Math.Decide.{dec_lt}
use Rattle.std.proofs.lemmas.List.{length-map}
use Rattle.file_reader.specs.declared.Record.TheVariants.{Chain, End, Gap, Task}
use Rattle.file_reader.specs.declared.Record.{Record}
use Rattle.refusal.specs.declared.Refusal.{Refusal}
use Rattle.refusal.specs.Refusals.{refusal}
use Rattle.schedule.specs.declared.NumberedTask.{NumberedTask}
use Rattle.schedule.specs.declared.Schedule.{Schedule}
use Rattle.schedule.specs.Schedules.{number_of}
use Rattle.file_reader.specs.Reading.{chain_field, record_of, refused_file, accepted_file, after_record, read_from, read_file}
use Rattle.file_reader.proofs.Records.{Tells, tells}

pub data ReadAs (r : Result Schedule Refusal) : Type 0 where
  accepts : (ts : List NumberedTask) (chs : List (List ℕ)) (g : ℕ) → r ≡ accepted_file ts chs g → ReadAs r
  refuses : (number place : ℕ) → 1 ≤ number → number ≤ 6 → place ≤ 698 → r ≡ refused_file number place → ReadAs r

-- where reading can stand after so many tasks and chains, and after the gap, which is 0 before it
record Near (tasks chains gap at : ℕ) : Type 0 where
  few : tasks ≤ 32
  few_chains : chains ≤ 4
  near : at ≤ 18 * tasks + 28 * chains + 6
  before_gap : gap ≡ 0 → at ≤ 18 * tasks + 28 * chains

near_end : {tasks chains gap at : ℕ} → Near tasks chains gap at → at ≤ 694
near_end n = omega (arith, n.few, n.few_chains, n.near)

from_as : (n : ℕ) (ts : List NumberedTask) (chs : List (List ℕ)) (g at : ℕ) (l : List ℕ) → Near (length ts) (length chs) g at → ReadAs (read_from n ts chs g at l)
unfolding read_from after_record
from_as zero ts chs g at l near = refuses 1 at (omega arith) (omega arith) (omega (arith, near_end near)) refl
from_as (suc n) ts chs g at l near =
    go (record_of (map number_of ts) (length chs) g l) (tells (map number_of ts) (length chs) g l (record_of (map number_of ts) (length chs) g l) refl) (λ ts' chs' g' at' l'. from_as n ts' chs' g' at' l')
  where
    go : (r : Result Record ℕ) → Tells (map number_of ts) (length chs) g l r
        → ((ts' : List NumberedTask) (chs' : List (List ℕ)) (g' at' : ℕ) (l' : List ℕ) → Near (length ts') (length chs') g' at' → ReadAs (read_from n ts' chs' g' at' l'))
        → ReadAs (after_record (read_from n) ts chs g at l r)
    go (Ok (Task t)) i on =
        let m : length (ts ++ (t ∷ [])) ≡ length ts + 1 = length-append ts (t ∷ []) in
        on (ts ++ (t ∷ [])) chs g (at + 18) (drop 18 l) (record { few = omega (arith, i.few, length-map ts number_of); few_chains = near.few_chains; near = omega (arith, near.near); before_gap = λ z. omega (arith, near.before_gap z) })
    go (Ok (Chain p)) i on =
        let m : length (chs ++ (chain_field l p ∷ [])) ≡ length chs + 1 = length-append chs (chain_field l p ∷ []) in
        on ts (chs ++ (chain_field l p ∷ [])) g (at + (4 + 2 * p)) (drop (4 + 2 * p) l) (record { few = near.few; few_chains = omega (arith, i.few_chains); near = omega (arith, near.near, i.few); before_gap = λ z. omega (arith, near.before_gap z, i.few) })
    go (Ok (Gap v)) i on =
        on ts chs v (at + 6) (drop 6 l) (record { few = near.few; few_chains = near.few_chains; near = omega (arith, near.before_gap i.no_gap); before_gap = λ z. absurd (omega (arith, i.some)) })
    go (Ok End) i on = elim (dec_lt 4 (length l)) [
      | yes h ↦ rw (lt-ltb 4 (length l) h) (refuses 4 (at + 4) (omega arith) (omega arith) (omega (arith, near_end near)) refl)
      | no h ↦ rw (le-ltb 4 (length l) (omega arith)) (accepts ts chs g refl)
    ]
    go (Err k) i on = refuses k at i.0 i.1 (omega (arith, near_end near)) refl

pub read_as : (l : List ℕ) → ReadAs (read_file l)
read_as l = from_as (length l) [] [] 0 0 l (record { few = omega arith; few_chains = omega arith; near = omega arith; before_gap = λ z. omega arith })

-- A refusal's number is 1 to 6 and its place small.
pub record SmallRefusal (r : Refusal) : Type 0 where
  pub some : 1 ≤ r.number
  pub number : r.number ≤ 6
  pub place : r.place ≤ 698

pub read_small : (l : List ℕ) (r : Refusal) → Err r ≡ read_file l → SmallRefusal r
read_small l r is = go (read_file l) (read_as l) is
  where
    go : (f : Result Schedule Refusal) → ReadAs f → Err r ≡ f → SmallRefusal r
    go f (accepts ts chs g e) h = absurd cc
    go f (refuses number place some few near e) h =
        let k : r ≡ refusal number place = cc in
        rw k (record { some = some; number = few; place = near })
