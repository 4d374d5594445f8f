-- The two round trips of a schedule file hold through the calls for C: writing what was read returns the file (`rewritten_for_c`),
-- and reading what was written returns the numbers that were given (`reread_for_c`).
use Rattle.std.specs.Prelude.{ℕ, ◌+◌, ◌-◌, ◌*◌, ◌≤◌, ◌<◌, ◌≡◌, refl, Bool, true, false, cond, List, [], ◌∷◌, ◌++◌, map, leb, eqb, length, get_or, take, drop, Err, Ok, Result}
use Rattle.std.proofs.Common.{arith, sym, ap, ◌∙◌, take_at, get_or-take, length-take-le}
use Rattle.std.proofs.lemmas.Bool.{eqb-false}
use Rattle.refusal.specs.declared.Refusal.{Refusal}
use Rattle.refusal.specs.Refusals.{refusal}
use Rattle.chain.specs.Flat.{flat_of, take_flat}
use Rattle.ranges.specs.Entries.{entries, entries_length, entries_at}
use Rattle.schedule.specs.declared.NumberedTask.{NumberedTask}
use Rattle.schedule.specs.declared.Route.{Route}
use Rattle.schedule.specs.declared.Schedule.{Schedule}
use Rattle.schedule.specs.Schedules.{tasks_in, places_of, count_of, chains_in, no_route, route_of, zero_numbered, empty_schedule}
use Rattle.schedule.specs.Arrays.{Arrays}
use Rattle.schedule.specs.Padding.{take_padded, padded_at}
use Rattle.schedule_checks.specs.Checks.{fault_of}
use Rattle.schedule_checks.proofs.SoundSchedule.{SoundSchedule, placed_front}
use Rattle.schedule_checks.proofs.SameSchedule.{SameSchedule, fault_same}
use Rattle.little_endian.specs.LittleEndian.{Bytes}
use Rattle.file_reader.specs.Reading.{read_file}
use Rattle.file_reader.proofs.Offsets.{read_small}
use Rattle.file_writer.specs.FileBytes.{file_of, file_bytes}
use Rattle.file_writer.specs.Writing.{length_verdict, left_bytes, written_of}
use Rattle.file_writer.specs.Accepted.{Accepted, accepted}
use Rattle.round_trip.specs.RoundTrips.{cleared}
use Rattle.round_trip.proofs.RoundTrips.{read_arrays, read_sound, read_places, write_after_read, read_after_write, cleared_parts, cleared_arrays, cleared_places}
use Rattle.capi_schedule.specs.FlatSchedule.{tasks_from, count_from, held_from, place_from, route_from, routes_from, schedule_from, numbered_fields, flat_tasks, flat_routes, route_counts}
use Rattle.capi_schedule.specs.GivenBack.{from_arrays, schedule_given_back, front_tasks, same_tasks, count_fits, count_is, held_back, held_is, flat_long, flat_at, count_at, SameChains, same_counts, same_places}
use Rattle.capi_file.specs.Calls.{read_code, read_tasks, read_chains, read_places as read_route_counts, read_counts, GivesSchedule, written_code, written_length, GivesFile}

-- ---- what C gives back

-- what was read, and under a refusal the schedule of zeros
abbrev pub schedule_in : Result Schedule Refusal → Schedule
schedule_in (Ok s) = s
schedule_in (Err r) = empty_schedule

-- under a refusal C gets the numbers of the schedule of zeros
tasks_in_both : (f : Result Schedule Refusal) → read_tasks f ≡ flat_tasks (schedule_in f).tasks
unfolding flat_of
tasks_in_both (Ok s) = refl
tasks_in_both (Err r) = refl

chains_in_both : (f : Result Schedule Refusal) → read_chains f ≡ flat_routes (schedule_in f).routes
unfolding entries
chains_in_both (Ok s) = refl
chains_in_both (Err r) = refl

places_in_both : (f : Result Schedule Refusal) → read_route_counts f ≡ route_counts (schedule_in f).routes
unfolding entries
places_in_both (Ok s) = refl
places_in_both (Err r) = refl

counts_in_both : (f : Result Schedule Refusal) → read_counts f ≡ (schedule_in f).count ∷ (schedule_in f).chains ∷ (schedule_in f).gap ∷ []
counts_in_both (Ok s) = refl
counts_in_both (Err r) = refl

-- the schedule of what C got of a file, be it read or refused
pub given_schedule : (f : Result Schedule Refusal) (code : ℕ) (ts ch pl counts : List ℕ) → GivesSchedule f code ts ch pl counts → Arrays (schedule_in f) → (schedule_in f).count ≤ 32 → (schedule_in f).chains ≤ 4
    → ((c : ℕ) → c < 4 → (get_or (schedule_in f).routes c no_route).count ≤ 12)
    → schedule_from ts (get_or counts 0 0) ch pl (get_or counts 1 0) (get_or counts 2 0) ≡ schedule_in f
given_schedule f code ts ch pl counts g a few few_chains few_places =
    rw (g.gives_tasks ∙ tasks_in_both f, g.gives_chains ∙ chains_in_both f, g.gives_places ∙ places_in_both f, g.gives_counts ∙ counts_in_both f)
    (schedule_given_back (schedule_in f) a few few_chains few_places)

-- a refusal's code is not 0, so with the code 0 a schedule was read
pub schedule_read : (b : List ℕ) → read_code (read_file b) ≡ 0 → (s : Schedule) × (read_file b ≡ Ok s)
schedule_read b h = go (read_file b) refl h
  where
    go : (f : Result Schedule Refusal) → read_file b ≡ f → read_code f ≡ 0 → (s : Schedule) × (f ≡ Ok s)
    go (Ok s) e k = (s, refl)
    go (Err r) e k = absurd (let i = read_small b r (sym e) in omega (arith, i.some))

-- and so in writing
written_zero : (s : Schedule) (lent : ℕ) → written_code (written_of s lent) ≡ 0 → written_of s lent ≡ Ok (written_length (written_of s lent))
unfolding written_of length_verdict
written_zero s lent = go (eqb (fault_of s).number 0) refl (leb (length (file_bytes s)) lent)
  where
    answer : Bool → Bool → Result ℕ Refusal
    answer x y = cond x (cond y (Ok (length (file_bytes s))) (Err (refusal 11 0))) (Err (fault_of s))

    go : (x : Bool) → eqb (fault_of s).number 0 ≡ x → (y : Bool) → written_code (answer x y) ≡ 0 → answer x y ≡ Ok (written_length (answer x y))
    go true e true h = refl
    go true e false h = absurd (omega arith)
    go false e y h = absurd (eqb-false (fault_of s).number 0 e (omega arith))

-- writing looks at no more than what is the same
module _ (s t : Schedule) (same : SameSchedule s t) where
  file_same : file_bytes s ≡ file_bytes t
  file_same =
      ap (λ (x : List NumberedTask). file_of x (chains_in s) s.gap) same.tasks ∙ ap (λ (x : List (List ℕ)). file_of (tasks_in t) x s.gap) same.numbers
      ∙ ap (file_of (tasks_in t) (chains_in t)) same.gap

  written_same : (lent : ℕ) → written_of s lent ≡ written_of t lent
  unfolding written_of
  written_same lent = rw (fault_same s t same, file_same)

  gives_same : (old : List ℕ) (code : ℕ) (new : List ℕ) (long : ℕ) → GivesFile s old code new long → GivesFile t old code new long
  gives_same old code new long g = record {
    answers = g.answers ∙ ap written_code (written_same (length old));
    leaves = g.leaves ∙ ap (λ (x : Result ℕ Refusal). left_bytes x (file_bytes s) old) (written_same (length old)) ∙ ap (λ (x : List ℕ). left_bytes (written_of t (length old)) x old) file_same;
    gives_length = g.gives_length ∙ ap written_length (written_same (length old));
  }

-- ---- writing after reading

-- Demand 2, for C: writing what was read returns the file byte for byte, into lent bytes that are long enough.
-- n, m and gap are the counts and the gap that were got. us, vs and ws hold the numbers that were got, as lists of any length that the counts fit: those themselves, or no more than is counted.
module _ (b : List ℕ) (is : Bytes b) (code : ℕ) (ts ch pl : List ℕ) (n m gap : ℕ) (g : GivesSchedule (read_file b) code ts ch pl (n ∷ m ∷ gap ∷ [])) (fine : code ≡ 0)
    (us vs ws : List ℕ) (count : count_from (length us) n ≡ n) (tasks : take (4 * n) us ≡ take (4 * n) ts) (chained : held_from (length ws) m ≡ m) (chains : SameChains m ch pl vs ws) where
  was_read : (s : Schedule) × (read_file b ≡ Ok s)
  was_read = schedule_read b (sym g.answers ∙ fine)

  abbrev r : Schedule
  r = was_read.0

  r_read : read_file b ≡ Ok r
  r_read = was_read.1

  given : GivesSchedule (Ok r) code ts ch pl (n ∷ m ∷ gap ∷ [])
  given = rw r_read at g

  sound : SoundSchedule r
  sound = read_sound b is r r_read

  read : schedule_from ts n ch pl m gap ≡ r
  read = given_schedule (Ok r) code ts ch pl (n ∷ m ∷ gap ∷ []) given (read_arrays b is r r_read) sound.few sound.few_chains (read_places b is r r_read)

  n_is : n ≡ r.count
  n_is = ap (λ (l : List ℕ). get_or l 0 0) given.gives_counts

  t_count : count_from (length ts) n ≡ n
  t_count = ap (λ (x : Schedule). x.count) read ∙ sym n_is

  t_chains : held_from (length pl) m ≡ m
  t_chains = ap (λ (x : Schedule). x.chains) read ∙ sym (ap (λ (l : List ℕ). get_or l 1 0) given.gives_counts)

  -- the lists that were got hold their own chains
  got_held : (c : ℕ) → c < m → held_from (length ch - 12 * c) (get_or pl c 0) ≡ get_or pl c 0
  got_held c h =
      let e : m ≡ r.chains = ap (λ (l : List ℕ). get_or l 1 0) given.gives_counts in
      let k : c < 4 = omega (arith, sound.few_chains) in
      let p : get_or pl c 0 ≡ (get_or r.routes c no_route).count = ap (λ (l : List ℕ). get_or l c 0) given.gives_places ∙ count_at r.routes c k in
      let l : length ch ≡ 48 = ap length given.gives_chains ∙ flat_long r.routes in
      held_back (length ch - 12 * c) (get_or pl c 0) (omega (arith, read_places b is r r_read c k))

  -- both are the same schedule
  pub same_given : SameSchedule (schedule_from us n vs ws m gap) (schedule_from ts n ch pl m gap)
  same_given = record {
    count = count ∙ sym t_count;
    chains = chained ∙ sym t_chains;
    tasks = ap (λ (x : ℕ). take x (tasks_from us)) count ∙ same_tasks ts us n (omega (arith, n_is, sound.few)) (count_fits (length ts) n t_count) (count_fits (length us) n count) tasks
        ∙ ap (λ (x : ℕ). take x (tasks_from ts)) (sym t_count);
    places = ap (λ (x : ℕ). map count_of (take x (routes_from vs ws))) chained ∙ same_counts m ch pl vs ws got_held chains ∙ ap (λ (x : ℕ). map count_of (take x (routes_from ch pl))) (sym t_chains);
    numbers = ap (λ (x : ℕ). map places_of (take x (routes_from vs ws))) chained ∙ same_places m ch pl vs ws got_held chains ∙ ap (λ (x : ℕ). map places_of (take x (routes_from ch pl))) (sym t_chains);
    gap = refl;
  }

  pub rewritten_for_c : (old : List ℕ) → length b ≤ length old → (code' : ℕ) (new : List ℕ) (long : ℕ) → GivesFile (schedule_from us n vs ws m gap) old code' new long
      → (code' ≡ 0) × (long ≡ length b) × (new ≡ b ++ drop (length b) old)
  rewritten_for_c old h code' new long w =
      let k = gives_same (schedule_from us n vs ws m gap) (schedule_from ts n ch pl m gap) same_given old code' new long w in
      let v : GivesFile r old code' new long = rw read at k in
      let x = write_after_read b is r r_read old h in
      (v.answers ∙ ap written_code x.0, v.gives_length ∙ ap written_length x.0, v.leaves ∙ x.1)

-- ---- reading after writing

-- What C gets of a schedule that it gave: no refusal, the same counts and gap, the same numbers of the counted tasks, of each counted chain as many places and the same numbers at them,
-- and the schedule with zeros past its counts.
pub record ComesBack (ts : List ℕ) (n : ℕ) (ch pl : List ℕ) (m gap code : ℕ) (ts' ch' pl' counts : List ℕ) : Type 0 where
  pub accepted : code ≡ 0
  pub counted : counts ≡ n ∷ m ∷ gap ∷ []
  pub tasks : take (4 * n) ts' ≡ take (4 * n) ts
  pub places : (c : ℕ) → c < m → get_or pl' c 0 ≡ get_or pl c 0
  pub numbers : (c i : ℕ) → c < m → i < get_or pl c 0 → get_or ch' (12 * c + i) 0 ≡ get_or ch (12 * c + i) 0
  pub schedule : schedule_from ts' n ch' pl' m gap ≡ cleared (schedule_from ts n ch pl m gap)

-- Demand 2, for C: reading what was written returns the schedule.
module _ (ts : List ℕ) (n : ℕ) (ch pl : List ℕ) (m gap : ℕ) (old : List ℕ) (code : ℕ) (new : List ℕ) (long : ℕ) (w : GivesFile (schedule_from ts n ch pl m gap) old code new long) (fine : code ≡ 0) where
  abbrev s : Schedule
  s = schedule_from ts n ch pl m gap

  arrays : Arrays s
  arrays = from_arrays ts n ch pl m gap

  is_written : written_of s (length old) ≡ Ok long
  is_written = written_zero s (length old) (sym w.answers ∙ fine) ∙ ap Ok (sym w.gives_length)

  facts : Accepted s (length old) long
  facts = accepted s (length old) long is_written

  sound_s : SoundSchedule s
  sound_s = facts.is_sound

  file_there : take long new ≡ file_bytes s
  file_there =
      ap (take long) (w.leaves ∙ ap (λ (x : Result ℕ Refusal). left_bytes x (file_bytes s) old) is_written)
      ∙ take_at (file_bytes s) (drop (length (file_bytes s)) old) long (sym facts.long)

  is_read : read_file (take long new) ≡ Ok (cleared s)
  is_read = ap read_file file_there ∙ read_after_write s (length old) long arrays is_written

  parts : ((cleared s).count ≡ s.count) × ((cleared s).chains ≡ s.chains)
  parts = let k = cleared_parts s (length old) long arrays is_written in (k.2, k.3)

  counts : s.count ≡ n
  counts = count_is (length ts) n sound_s.some

  chains_are : s.chains ≡ m
  chains_are = held_is (length pl) m sound_s.chained

  tasks_front : take (4 * n) (flat_tasks (cleared s).tasks) ≡ take (4 * n) ts
  tasks_front =
      let e : length (tasks_in s) ≡ n = parts.0 ∙ counts in
      take_flat numbered_fields 4 (λ x. refl) n (cleared s).tasks ∙ ap (λ (x : ℕ). flat_tasks (take x (cleared s).tasks)) (sym e) ∙ ap flat_tasks (take_padded zero_numbered 32 (tasks_in s) (omega (arith, sound_s.few, counts)))
      ∙ ap (λ (x : ℕ). flat_tasks (take x (tasks_from ts))) (counts) ∙ front_tasks ts n (omega (arith, sound_s.few, counts)) (count_fits (length ts) n counts)

  -- chain c of the schedule, of what C gave and of what comes back
  module _ (c : ℕ) (h : c < m) where
    in_four : c < 4
    in_four = omega (arith, chains_are, sound_s.few_chains)

    route_there : get_or s.routes c no_route ≡ route_from ch pl c
    route_there = entries_at (route_from ch pl) no_route 4 c in_four

    placed : (1 ≤ (route_from ch pl c).count) × ((route_from ch pl c).count ≤ 12)
    placed = rw route_there at (placed_front s.routes s.chains (omega (arith, arrays.routes, sound_s.few_chains)) sound_s.placed c (omega (arith, chains_are)))

    places_are : (route_from ch pl c).count ≡ get_or pl c 0
    places_are = held_is (length ch - 12 * c) (get_or pl c 0) placed.0

    route_cleared : get_or (cleared s).routes c no_route ≡ route_of (places_of (route_from ch pl c))
    route_cleared = cleared_places s (length old) long arrays is_written c (omega (arith, chains_are)) ∙ ap (λ (r : Route). route_of (places_of r)) route_there

    count_back_holds : get_or (route_counts (cleared s).routes) c 0 ≡ get_or pl c 0
    count_back_holds =
        count_at (cleared s).routes c in_four ∙ ap count_of route_cleared
        ∙ length-take-le (route_from ch pl c).count (route_from ch pl c).places (omega (arith, placed.1, entries_length (place_from ch (12 * c)) 0 12)) ∙ places_are

    number_back : (i : ℕ) → i < get_or pl c 0 → get_or (flat_routes (cleared s).routes) (12 * c + i) 0 ≡ get_or ch (12 * c + i) 0
    number_back i k =
        let p : (route_from ch pl c).count ≡ get_or pl c 0 = places_are in
        flat_at (cleared s).routes c i in_four (omega (arith, placed.1)) ∙ ap (λ (r : Route). get_or r.places i 0) route_cleared
        ∙ padded_at 0 12 (places_of (route_from ch pl c)) i 0 (omega (arith, placed.1))
        ∙ get_or-take (route_from ch pl c).count (route_from ch pl c).places i 0 (omega arith)
        ∙ entries_at (place_from ch (12 * c)) 0 12 i (omega (arith, placed.1))

  pub reread_for_c : (code' : ℕ) (ts' ch' pl' counts' : List ℕ) → GivesSchedule (read_file (take long new)) code' ts' ch' pl' counts' → ComesBack ts n ch pl m gap code' ts' ch' pl' counts'
  reread_for_c code' ts' ch' pl' counts' g =
      let v = rw is_read at g in
      let d : (cleared s).count ≡ n = parts.0 ∙ counts in
      let q : (cleared s).chains ≡ m = parts.1 ∙ chains_are in
      let k : counts' ≡ n ∷ m ∷ gap ∷ [] = v.gives_counts ∙ ap (λ (x : ℕ). x ∷ (cleared s).chains ∷ gap ∷ []) d ∙ ap (λ (x : ℕ). n ∷ x ∷ gap ∷ []) q in
      let a = cleared_arrays s (length old) long arrays is_written in
      let b = given_schedule (Ok (cleared s)) code' ts' ch' pl' counts' v a.0 (omega (arith, parts.0, sound_s.few)) (omega (arith, parts.1, sound_s.few_chains)) a.1 in
      record {
        accepted = v.answers;
        counted = k;
        tasks = ap (take (4 * n)) v.gives_tasks ∙ tasks_front;
        places = λ c h. ap (λ (l : List ℕ). get_or l c 0) v.gives_places ∙ count_back_holds c h;
        numbers = λ c i h j. ap (λ (l : List ℕ). get_or l (12 * c + i) 0) v.gives_chains ∙ number_back c h i j;
        schedule = rw k at b;
      }
