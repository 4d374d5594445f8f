-- How far reading has come: what the loop has stored is what the definition has read, and the file reads as the rest of it does from here.
use Rattle.std.specs.Prelude.{Err, Ok, Result}
use Prim.Native.Nat.{ℕ, zero, suc, ◌+◌, ◌-◌, ◌*◌, ◌≤◌, ◌<◌}
use native.Mathlib.Omega.{arith}
use mathlib.Core.Path.{◌≡◌, refl, sym, ap, ◌∙◌}
use mathlib.Core.Bool.{cond}
use mathlib.Core.List.{List, [], ◌∷◌, ◌++◌, map}
use lib.ListN.{length, set, take, drop, replicate, length-map, length-append, length-drop, drop_of_length-le}
use lib.Seq.{drop-drop}
use borrow.Author.Tests.{lt-ltb, le-ltb}
use Rattle.file_reader.specs.declared.Record.TheVariants.{Chain, End, Gap, Task}
use Rattle.file_reader.specs.declared.Record.{Record}
use Rattle.refusal.specs.declared.Refusal.{Refusal}
use Rattle.schedule.specs.declared.NumberedTask.{NumberedTask}
use Rattle.schedule.specs.declared.Route.{Route}
use Rattle.schedule.specs.declared.Schedule.{Schedule}
use Rattle.schedule.specs.Schedules.{number_of, padded, zero_numbered, empty_route, route_of}
use Rattle.schedule.specs.Padding.{padded_none, padded_set, take_padded, length_padded}
use Rattle.file_reader.specs.Reading.{chain_field, record_of, refused_file, accepted_file, after_record, read_from, read_file}
use Rattle.file_reader.proofs.Records.{tells}

pub map_snoc : {A B : Type 0} (f : A → B) (l : List A) (x : A) → map f (l ++ (x ∷ [])) ≡ map f l ++ (f x ∷ [])
map_snoc f [] x = refl
map_snoc {B = B} f (y ∷ l) x = ap (λ (r : List B). f y ∷ r) (map_snoc f l x)

pub record Going (bytes : List ℕ) (tasks : List NumberedTask) (numbers : List ℕ) (routes : List Route) (count chains gap at : ℕ) : Type 0 where
  pub read : List NumberedTask
  pub placed : List (List ℕ)
  pub left : ℕ
  pub tasks_are : tasks ≡ padded 32 zero_numbered read
  pub numbers_are : numbers ≡ padded 32 0 (map number_of read)
  pub routes_are : routes ≡ padded 4 empty_route (map route_of placed)
  pub counted : count ≡ length read
  pub placed_counted : chains ≡ length placed
  pub few : count ≤ 32
  pub few_chains : chains ≤ 4
  pub inside : at ≤ length bytes
  pub enough : length bytes - at ≤ left
  pub whole : read_file bytes ≡ read_from left read placed gap at (drop at bytes)

pub going_start : (bytes : List ℕ) → Going bytes (replicate 32 zero_numbered) (replicate 32 0) (replicate 4 empty_route) 0 0 0 0
going_start bytes = record {
  read = [];
  placed = [];
  left = length bytes;
  tasks_are = sym (padded_none zero_numbered 32);
  numbers_are = sym (padded_none 0 32);
  routes_are = sym (padded_none empty_route 4);
  counted = refl;
  placed_counted = refl;
  few = omega arith;
  few_chains = omega arith;
  inside = omega arith;
  enough = omega arith;
  whole = refl;
}

module _ (bytes : List ℕ) (tasks : List NumberedTask) (numbers : List ℕ) (routes : List Route) (count chains gap at : ℕ) (g : Going bytes tasks numbers routes count chains gap at) where
  pub going_long : length numbers ≡ 32
  going_long = ap length g.numbers_are ∙ length_padded 0 32 (map number_of g.read) (simp length-map (omega (arith, g.counted, g.few)))

  known_are : take count numbers ≡ map number_of g.read
  known_are =
      let e : count ≡ length (map number_of g.read) = g.counted ∙ sym (length-map g.read number_of) in
      ap (take count) g.numbers_are ∙ ap (λ (k : ℕ). take k (padded 32 0 (map number_of g.read))) e
      ∙ take_padded 0 32 (map number_of g.read) (omega (arith, g.few))

  -- a record that was judged to be r
  module _ (r : Result Record ℕ) (judged : r ≡ record_of (take count numbers) chains gap (drop at bytes)) where
    same : record_of (map number_of g.read) (length g.placed) gap (drop at bytes) ≡ r
    same =
        ap (λ (l : List ℕ). record_of l (length g.placed) gap (drop at bytes)) (sym known_are)
        ∙ ap (λ (k : ℕ). record_of (take count numbers) k gap (drop at bytes)) (sym g.placed_counted) ∙ sym judged

    turn : at < length bytes → read_file bytes ≡ after_record (read_from (g.left - 1)) g.read g.placed gap at (drop at bytes) r
    unfolding read_from
    turn h =
        let e : g.left ≡ suc (g.left - 1) = omega (arith, g.enough) in
        g.whole ∙ ap (λ (k : ℕ). read_from k g.read g.placed gap at (drop at bytes)) e
        ∙ ap (after_record (read_from (g.left - 1)) g.read g.placed gap at (drop at bytes)) same

  module _ (h : at < length bytes) where
    pub task_inside : (t : NumberedTask) → Ok (Task t) ≡ record_of (take count numbers) chains gap (drop at bytes) → (at + 18 ≤ length bytes) × (count < 32)
    task_inside t e =
        let i = tells _ _ _ _ _ (sym e) in
        (omega (arith, i.long, length-drop at bytes), omega (arith, i.few, ap length known_are, length-map g.read number_of, g.counted))

    pub chain_inside : (p : ℕ) → Ok (Chain p) ≡ record_of (take count numbers) chains gap (drop at bytes) → (4 + 2 * p ≤ length (drop at bytes)) × (p ≤ 12) × (at + (4 + 2 * p) ≤ length bytes) × (chains < 4)
    chain_inside p e = let i = tells _ _ _ _ _ (sym e) in (i.long, i.few, omega (arith, i.long, length-drop at bytes), i.few_chains)

    pub gap_inside : (v : ℕ) → Ok (Gap v) ≡ record_of (take count numbers) chains gap (drop at bytes) → at + 6 ≤ length bytes
    gap_inside v e = let i = tells _ _ _ _ _ (sym e) in omega (arith, i.long, length-drop at bytes)

    pub going_task : (t : NumberedTask) → Ok (Task t) ≡ record_of (take count numbers) chains gap (drop at bytes)
        → Going bytes (set tasks count t) (set numbers count t.number) routes (count + 1) chains gap (at + 18)
    unfolding after_record
    going_task t e =
        let i = task_inside t e in
        let n : length (map number_of g.read) ≡ count = length-map g.read number_of ∙ sym g.counted in
        record {
          read = g.read ++ (t ∷ []);
          placed = g.placed;
          left = g.left - 1;
          tasks_are = ap (λ (l : List NumberedTask). set l count t) g.tasks_are ∙ padded_set zero_numbered 32 g.read count t (sym g.counted) i.1;
          numbers_are = ap (λ (l : List ℕ). set l count t.number) g.numbers_are ∙ padded_set 0 32 (map number_of g.read) count t.number n i.1
              ∙ ap (padded 32 0) (sym (map_snoc number_of g.read t));
          routes_are = g.routes_are;
          counted = ap (λ (k : ℕ). k + 1) g.counted ∙ sym (length-append g.read (t ∷ []));
          placed_counted = g.placed_counted;
          few = omega arith;
          few_chains = g.few_chains;
          inside = i.0;
          enough = omega (arith, g.enough);
          whole = turn (Ok (Task t)) e h ∙ ap (read_from (g.left - 1) (g.read ++ (t ∷ [])) g.placed gap (at + 18)) (drop-drop 18 at bytes);
        }

    pub going_chain : (p : ℕ) → Ok (Chain p) ≡ record_of (take count numbers) chains gap (drop at bytes)
        → Going bytes tasks numbers (set routes chains (route_of (chain_field (drop at bytes) p))) count (chains + 1) gap (at + (4 + 2 * p))
    unfolding after_record
    going_chain p e =
        let i = chain_inside p e in
        let ch : List ℕ = chain_field (drop at bytes) p in
        let n : length (map route_of g.placed) ≡ chains = length-map g.placed route_of ∙ sym g.placed_counted in
        record {
          read = g.read;
          placed = g.placed ++ (ch ∷ []);
          left = g.left - 1;
          tasks_are = g.tasks_are;
          numbers_are = g.numbers_are;
          routes_are = ap (λ (l : List Route). set l chains (route_of ch)) g.routes_are ∙ padded_set empty_route 4 (map route_of g.placed) chains (route_of ch) n i.3
              ∙ ap (padded 4 empty_route) (sym (map_snoc route_of g.placed ch));
          counted = g.counted;
          placed_counted = ap (λ (k : ℕ). k + 1) g.placed_counted ∙ sym (length-append g.placed (ch ∷ []));
          few = g.few;
          few_chains = omega (arith, i.3);
          inside = i.2;
          enough = omega (arith, g.enough);
          whole = turn (Ok (Chain p)) e h ∙ ap (read_from (g.left - 1) g.read (g.placed ++ (ch ∷ [])) gap (at + (4 + 2 * p))) (drop-drop (4 + 2 * p) at bytes);
        }

    pub going_gap : (v : ℕ) → Ok (Gap v) ≡ record_of (take count numbers) chains gap (drop at bytes) → Going bytes tasks numbers routes count chains v (at + 6)
    unfolding after_record
    going_gap v e = record {
      read = g.read;
      placed = g.placed;
      left = g.left - 1;
      tasks_are = g.tasks_are;
      numbers_are = g.numbers_are;
      routes_are = g.routes_are;
      counted = g.counted;
      placed_counted = g.placed_counted;
      few = g.few;
      few_chains = g.few_chains;
      inside = gap_inside v e;
      enough = omega (arith, g.enough);
      whole = turn (Ok (Gap v)) e h ∙ ap (read_from (g.left - 1) g.read g.placed v (at + 6)) (drop-drop 6 at bytes);
    }

    pub going_fault : (k : ℕ) → Err k ≡ record_of (take count numbers) chains gap (drop at bytes) → refused_file k at ≡ read_file bytes
    unfolding after_record
    going_fault k e = sym (turn (Err k) e h)

    pub going_after : (Ok End) ≡ record_of (take count numbers) chains gap (drop at bytes) → 4 < length (drop at bytes) → refused_file 4 (at + 4) ≡ read_file bytes
    unfolding after_record
    going_after e k =
        sym (turn (Ok End) e h ∙ ap (λ (b : _). cond b (refused_file 4 (at + 4)) (accepted_file g.read g.placed gap)) (lt-ltb 4 (length (drop at bytes)) k))

    pub going_end : (Ok End) ≡ record_of (take count numbers) chains gap (drop at bytes) → length (drop at bytes) ≤ 4
        → ◌≡◌ {A = Result Schedule Refusal} (Ok (record { tasks = tasks; routes = routes; count = count; chains = chains; gap = gap })) (read_file bytes)
    unfolding after_record
    going_end e k =
        rw (g.tasks_are, g.routes_are, g.counted, g.placed_counted)
        (sym (turn (Ok End) e h ∙ ap (λ (b : _). cond b (refused_file 4 (at + 4)) (accepted_file g.read g.placed gap)) (le-ltb 4 (length (drop at bytes)) k)))

  -- Where no byte is left the end is missing.
  pub going_stop : length bytes ≤ at → refused_file 1 at ≡ read_file bytes
  unfolding read_from record_of after_record
  going_stop h =
      let e : drop at bytes ≡ [] = drop_of_length-le bytes {i = at} h in
      sym (g.whole ∙ ap (read_from g.left g.read g.placed gap at) e ∙ none_left g.left)
    where
      none_left : (n : ℕ) → read_from n g.read g.placed gap at [] ≡ refused_file 1 at
      none_left zero = refl
      none_left (suc n) = refl
