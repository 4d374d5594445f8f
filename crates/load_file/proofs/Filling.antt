-- Arrays that the loops of this crate fill from the front, and the schedule that is made of two of them.
use Prim.Native.Nat.{ℕ, zero, suc, ◌+◌, ◌≤◌, ◌<◌}
use native.Mathlib.Omega.{arith}
use mathlib.Core.Path.{◌≡◌, refl, sym, ap, ◌∙◌}
use mathlib.Core.List.{List, [], ◌∷◌, ◌++◌}
use lib.ListN.{length, get_or, set, take, replicate}
use lib.Seq.{length-take-le}
use Rattle.task.specs.declared.Task.{Task}
use Rattle.chain.specs.declared.Chain.{Chain}
use Rattle.chain.specs.Chains.{zero_task, given_of}
use Rattle.ranges.specs.Entries.{entries, entries_length, entries_more}
use Rattle.std.proofs.lemmas.List.{ext_get_or, get_or-replicate, length-replicate}
use Rattle.schedule.specs.declared.NumberedTask.{NumberedTask}
use Rattle.schedule.specs.declared.Route.{Route}
use Rattle.schedule.specs.declared.Schedule.{Schedule}
use Rattle.schedule.specs.Schedules.{padded, zero_numbered, empty_route}
use Rattle.schedule.specs.Padding.{padded_set}
use Rattle.load_file.specs.LoadFile.{numbered_from, numbers_to, alone_of}
use Rattle.load_file.specs.ReadBack.{numbered_length}

-- one entry more of any of them
stores : {A : Type 0} (d : A) (n : ℕ) (array l m : List A) (i : ℕ) (x : A) → array ≡ padded n d l → length l ≡ i → i < n → l ++ (x ∷ []) ≡ m → set array i x ≡ padded n d m
stores d n array l m i x e long h f = ap (λ (a : List _). set a i x) e ∙ padded_set d n l i x long h ∙ ap (padded n d) f

-- ---- numbered tasks

numbered_next : (n : ℕ) (l : List Task) (i : ℕ) → i < length l → numbered_from n (take i l) ++ (record { number = n + i; task = get_or l i zero_task } ∷ []) ≡ numbered_from n (take (suc i) l)
unfolding numbered_from
numbered_next n [] i h = absurd (omega arith)
numbered_next n (a ∷ l) zero h = let e : n + 0 ≡ n = omega arith in rw e
numbered_next n (a ∷ l) (suc i) h =
    let e : n + suc i ≡ suc n + i = omega arith in
    rw e (ap (λ (ts : List NumberedTask). record { number = n; task = a } ∷ ts) (numbered_next (suc n) l i (omega arith)))

-- a task by default is zeros
pub zero_task_is : (t : NumberedTask) → (t.number ≡ 0) × ((t.task.period ≡ 0) × ((t.task.duration ≡ 0) × (t.task.phase ≡ 0))) → t ≡ zero_numbered
zero_task_is t e = go t.number t.task.period t.task.duration t.task.phase e.0 e.1.0 e.1.1.0 e.1.1.1
  where
    go : (n p d f : ℕ) → n ≡ 0 → p ≡ 0 → d ≡ 0 → f ≡ 0 → ◌≡◌ {A = NumberedTask} (record { number = n; task = record { period = p; duration = d; phase = f } }) zero_numbered
    go n p d f a b c e = rw (a, b, c, e)

-- and a route by default is the empty one
pub empty_route_is : (r : Route) → ((i d : ℕ) → i < 12 → get_or r.places i d ≡ 0) → length r.places ≡ 12 → r.count ≡ 0 → r ≡ empty_route
empty_route_is r each long none = go r.places r.count zeros none
  where
    zeros : r.places ≡ replicate 12 0
    zeros = ext_get_or 0 r.places (replicate 12 0) (long ∙ sym (length-replicate {A = ℕ} 12 0)) (λ i h. each i 0 (omega arith) ∙ sym (get_or-replicate 12 i 0 0 (omega arith)))

    go : (p : List ℕ) (n : ℕ) → p ≡ replicate 12 0 → n ≡ 0 → ◌≡◌ {A = Route} (record { places = p; count = n }) empty_route
    go p n a b = rw (a, b)

pub no_tasks : (l : List Task) → replicate 32 zero_numbered ≡ padded 32 zero_numbered (numbered_from 1 (take 0 l))
unfolding padded numbered_from
no_tasks l = refl

pub task_more : (l : List Task) (i : ℕ) (array : List NumberedTask) → i < length l → i < 32 → array ≡ padded 32 zero_numbered (numbered_from 1 (take i l))
    → set array i (record { number = i + 1; task = get_or l i zero_task }) ≡ padded 32 zero_numbered (numbered_from 1 (take (i + 1) l))
task_more l i array h g e =
    let z : i + 1 ≡ 1 + i = omega arith in
    let y : i + 1 ≡ suc i = omega arith in
    stores zero_numbered 32 array (numbered_from 1 (take i l)) (numbered_from 1 (take (i + 1) l)) i _ e (numbered_length 1 (take i l) ∙ length-take-le i l (omega arith)) g
    (ap (λ (k : ℕ). numbered_from 1 (take i l) ++ (record { number = k; task = get_or l i zero_task } ∷ [])) z ∙ numbered_next 1 l i h ∙ ap (λ (k : ℕ). numbered_from 1 (take k l)) (sym y))

-- ---- their numbers

pub no_numbers : replicate 12 0 ≡ padded 12 0 (numbers_to 0)
unfolding padded entries
no_numbers = refl

pub number_more : (i : ℕ) (array : List ℕ) → i < 12 → array ≡ padded 12 0 (numbers_to i) → set array i (i + 1) ≡ padded 12 0 (numbers_to (i + 1))
number_more i array g e =
    let z : i + 1 ≡ 1 + i = omega arith in
    let y : i + 1 ≡ suc i = omega arith in
    stores 0 12 array (numbers_to i) (numbers_to (i + 1)) i (i + 1) e (entries_length (λ j. j) 1 i) g
    (ap (λ (k : ℕ). numbers_to i ++ (k ∷ [])) z ∙ sym (entries_more (λ j. j) 1 i) ∙ ap numbers_to (sym y))

-- ---- the schedule

pub alone_made : (c : Chain) (tasks : List NumberedTask) (places : List ℕ) → length c.tasks ≡ 12 → c.places ≤ 12
    → tasks ≡ padded 32 zero_numbered (numbered_from 1 (take c.places c.tasks)) → places ≡ padded 12 0 (numbers_to c.places)
    → ◌≡◌ {A = Schedule} (record { tasks = tasks; routes = set (replicate 4 empty_route) 0 (record { places = places; count = c.places }); count = c.places; chains = 1; gap = c.gap }) (alone_of c)
unfolding padded
alone_made c tasks places twelve few e f =
    let n : c.places ≡ length (numbered_from 1 (given_of c)) = sym (numbered_length 1 (given_of c) ∙ length-take-le c.places c.tasks (omega arith)) in
    let m : c.places ≡ length (numbers_to c.places) = sym (entries_length (λ i. i) 1 c.places) in
    ap (λ (l : List NumberedTask). made l places c.places c.places) e ∙ ap (λ (l : List ℕ). made (padded 32 zero_numbered (numbered_from 1 (given_of c))) l c.places c.places) f
    ∙ ap (λ (k : ℕ). made (padded 32 zero_numbered (numbered_from 1 (given_of c))) (padded 12 0 (numbers_to c.places)) k c.places) m ∙ ap (made (padded 32 zero_numbered (numbered_from 1 (given_of c))) (padded 12 0 (numbers_to c.places)) (length (numbers_to c.places))) n
  where
    made : List NumberedTask → List ℕ → ℕ → ℕ → Schedule
    made l p k n = record { tasks = l; routes = record { places = p; count = k } ∷ empty_route ∷ empty_route ∷ empty_route ∷ []; count = n; chains = 1; gap = c.gap }
