-- Demand 2: a schedule file has one spelling. Writing after reading returns the file (`write_after_read`), reading after writing returns the schedule
-- (`read_after_write`), and every file that reading accepts is the file of exactly one schedule: of the one that was read (`read_arrays`, `spelt_again`, `written_again`), and of no other (`one_schedule`).
use Rattle.std.specs.Prelude.{ℕ, zero, suc, ◌≤◌, ◌<◌, ◌≡◌, length, get_or, take, Ok, Result}
use Rattle.std.proofs.Common.{arith, sym, ◌∙◌, length-take-le, get_or-take, le-leb}
use Rattle.std.proofs.Math.Path.{refl, ap}
use mathlib.Core.List.{List, [], ◌∷◌, ◌++◌, map}
use Rattle.std.proofs.Math.ListN.{drop}
use Rattle.std.proofs.lemmas.List.{length-map}
use Rattle.refusal.specs.declared.Refusal.{Refusal}
use Rattle.little_endian.specs.LittleEndian.{Bytes}
use Rattle.schedule.specs.declared.NumberedTask.{NumberedTask}
use Rattle.schedule.specs.declared.Schedule.{Schedule}
use Rattle.schedule.specs.declared.Route.{Route}
use Rattle.schedule.specs.Schedules.{number_of, tasks_in, places_of, routes_in, chains_in, padded, zero_numbered, no_route, empty_route, route_of, schedule_of}
use Rattle.schedule.specs.Arrays.{Arrays}
use Rattle.schedule.specs.Padding.{take_padded, length_padded, padded_at}
use Rattle.schedule_checks.proofs.SoundSchedule.{SoundSchedule, no_refusal}
use Rattle.file_reader.specs.Reading.{read_file}
use Rattle.file_writer.specs.FileBytes.{file_of, file_bytes}
use Rattle.file_writer.specs.Writing.{left_bytes, length_verdict, written_of}
use Rattle.file_writer.specs.Accepted.{accepted, sound_written}
use Rattle.round_trip.specs.Right.{Right, placed_routes, routes_placed, routes_known, routes_same, routes_twelve, routes_few}
use Rattle.round_trip.specs.ReadAfterWrite.{read_of_file}
use Rattle.round_trip.specs.WriteAfterRead.{Ends, file_of_read}
use Rattle.round_trip.specs.RoundTrips.{cleared}

-- ---- definitions

-- ---- theorems

-- each of the counted routes has its array of twelve places
twelve_each : (s : Schedule) → Arrays s → SoundSchedule s → (i : ℕ) → i < length (routes_in s) → length (get_or (routes_in s) i no_route).places ≡ 12
twelve_each s a w i h =
    let n : length (routes_in s) ≡ s.chains = length-take-le s.chains s.routes (omega (arith, a.routes, w.few_chains)) in
    rw (get_or-take s.chains s.routes i no_route (omega arith)) (a.places i (omega (arith, w.few_chains)))

chains_counted : (s : Schedule) → Arrays s → SoundSchedule s → length (chains_in s) ≡ s.chains
chains_counted s a w = length-map (routes_in s) places_of ∙ length-take-le s.chains s.routes (omega (arith, a.routes, w.few_chains))

right_of : (s : Schedule) → Arrays s → SoundSchedule s → Right (tasks_in s) (chains_in s) s.gap
right_of s a w =
    let t : length (tasks_in s) ≡ s.count = length-take-le s.count s.tasks (omega (arith, a.tasks, w.few)) in
    let p : length (chains_in s) ≡ s.chains = chains_counted s a w in
    record {
      some = omega (arith, w.some);
      few = omega (arith, w.few);
      tasks_right = w.tasks_right;
      chained = omega (arith, w.chained);
      few_chains = omega (arith, w.few_chains);
      placed = placed_routes (map number_of (tasks_in s)) (routes_in s) (twelve_each s a w) w.placed w.places_known;
      permitted = w.permitted;
    }

-- The schedule of such tasks, chains and gap: its routes are those of the chains,
pub routes_front : (ts : List NumberedTask) (chs : List (List ℕ)) (g : ℕ) → Right ts chs g → routes_in (schedule_of ts chs g) ≡ map route_of chs
routes_front ts chs g r =
    let n : length (map route_of chs) ≡ length chs = length-map chs route_of in
    ap (λ (k : ℕ). take k (padded 4 empty_route (map route_of chs))) (sym n) ∙ take_padded empty_route 4 (map route_of chs) (omega (arith, r.few_chains))

pub routes_back : (ts : List NumberedTask) (chs : List (List ℕ)) (g : ℕ) → Right ts chs g → chains_in (schedule_of ts chs g) ≡ chs
routes_back ts chs g r = ap (map places_of) (routes_front ts chs g r) ∙ routes_same (map number_of ts) chs r.placed

-- it is sound,
pub right_sound : (ts : List NumberedTask) (chs : List (List ℕ)) (g : ℕ) → Right ts chs g → SoundSchedule (schedule_of ts chs g)
right_sound ts chs g r = record {
  some = r.some;
  few = r.few;
  chained = r.chained;
  few_chains = r.few_chains;
  placed = rw (routes_front ts chs g r) (routes_placed (map number_of ts) chs r.placed);
  tasks_right = rw (take_padded zero_numbered 32 ts r.few) r.tasks_right;
  permitted = r.permitted;
  places_known = rw (take_padded zero_numbered 32 ts r.few, routes_back ts chs g r) (routes_known (map number_of ts) chs r.placed);
}

-- and its arrays have their lengths.
right_arrays : (ts : List NumberedTask) (chs : List (List ℕ)) (g : ℕ) → Right ts chs g → Arrays (schedule_of ts chs g)
right_arrays ts chs g r = record {
  tasks = length_padded zero_numbered 32 ts r.few;
  routes = length_padded empty_route 4 (map route_of chs) (omega (arith, length-map chs route_of, r.few_chains));
  places = λ i h. ap (λ (c : Route). length c.places) (padded_at empty_route 4 (map route_of chs) i no_route h) ∙ routes_twelve (map number_of ts) chs r.placed i;
}

-- the routes of the chains of routes
route_at : (rs : List Route) (c : ℕ) → c < length rs → get_or (map route_of (map places_of rs)) c empty_route ≡ route_of (places_of (get_or rs c no_route))
route_at [] c h = absurd (omega arith)
route_at (r ∷ rs) zero h = refl
route_at (r ∷ rs) (suc c) h = route_at rs c (omega arith)

-- Reading what was written returns the schedule.
pub read_after_write : (s : Schedule) (lent n : ℕ) → Arrays s → written_of s lent ≡ Ok n → read_file (file_bytes s) ≡ Ok (cleared s)
read_after_write s lent n a h = read_of_file (tasks_in s) (chains_in s) s.gap (right_of s a (accepted s lent n h).is_sound)

-- It is the same schedule: it has the same tasks, the same chains, the same counts and the same gap.
pub cleared_parts : (s : Schedule) (lent n : ℕ) → Arrays s → written_of s lent ≡ Ok n
    → (tasks_in (cleared s) ≡ tasks_in s) × (chains_in (cleared s) ≡ chains_in s) × ((cleared s).count ≡ s.count) × ((cleared s).chains ≡ s.chains) × ((cleared s).gap ≡ s.gap)
cleared_parts s lent n a h =
    let w = (accepted s lent n h).is_sound in
    let r = right_of s a w in (
      take_padded zero_numbered 32 (tasks_in s) r.few,
      routes_back (tasks_in s) (chains_in s) s.gap r,
      length-take-le s.count s.tasks (omega (arith, a.tasks, w.few)),
      chains_counted s a w,
      refl,
    )

-- Of such tasks, chains and gap every route has at most twelve places, those past the chains too.
right_places : (ts : List NumberedTask) (chs : List (List ℕ)) (g : ℕ) → Right ts chs g → (c : ℕ) → c < 4 → (get_or (schedule_of ts chs g).routes c no_route).count ≤ 12
right_places ts chs g r c h = rw (padded_at empty_route 4 (map route_of chs) c no_route h) (routes_few (map number_of ts) chs r.placed c)

-- So of the schedule that is returned: its arrays have their lengths and its routes few places,
pub cleared_arrays : (s : Schedule) (lent n : ℕ) → Arrays s → written_of s lent ≡ Ok n
    → (Arrays (cleared s)) × ((c : ℕ) → c < 4 → (get_or (cleared s).routes c no_route).count ≤ 12)
cleared_arrays s lent n a h =
    let r = right_of s a (accepted s lent n h).is_sound in
    (right_arrays (tasks_in s) (chains_in s) s.gap r, right_places (tasks_in s) (chains_in s) s.gap r)

-- and each of its routes has the places of the schedule's own.
pub cleared_places : (s : Schedule) (lent n : ℕ) → Arrays s → written_of s lent ≡ Ok n → (c : ℕ) → c < s.chains
    → get_or (cleared s).routes c no_route ≡ route_of (places_of (get_or s.routes c no_route))
cleared_places s lent n a h c g =
    let w = (accepted s lent n h).is_sound in
    let k : c < length (routes_in s) = omega (arith, length-take-le s.chains s.routes (omega (arith, a.routes, w.few_chains))) in
    padded_at empty_route 4 (map route_of (chains_in s)) c no_route (omega (arith, w.few_chains)) ∙ route_at (routes_in s) c k
    ∙ ap (λ (x : Route). route_of (places_of x)) (get_or-take s.chains s.routes c no_route g)

-- A schedule that has zeros past its counts, as every schedule has that reading gives, is returned itself.
pub cleared_same : (ts : List NumberedTask) (chs : List (List ℕ)) (g : ℕ) → Right ts chs g → cleared (schedule_of ts chs g) ≡ schedule_of ts chs g
cleared_same ts chs g r = rw (take_padded zero_numbered 32 ts r.few, routes_back ts chs g r)

-- Of a file that reading accepts.
module _ (b : List ℕ) (is : Bytes b) (s : Schedule) (fine : read_file b ≡ Ok s) where
  ends : Ends b s
  ends = file_of_read b is s fine

  in_tasks : tasks_in s ≡ ends.tasks
  in_tasks = ap tasks_in ends.is ∙ take_padded zero_numbered 32 ends.tasks ends.right.few

  in_chains : chains_in s ≡ ends.chains
  in_chains = ap chains_in ends.is ∙ routes_back ends.tasks ends.chains ends.gap ends.right

  -- The file of the schedule that was read is the file that was read,
  pub spelt_again : file_bytes s ≡ b
  spelt_again =
      ap (λ (ts : List NumberedTask). file_of ts (chains_in s) s.gap) in_tasks ∙ ap (λ (chs : List (List ℕ)). file_of ends.tasks chs s.gap) in_chains
      ∙ ap (λ (x : Schedule). file_of ends.tasks ends.chains x.gap) ends.is ∙ ends.spelt

  -- the schedule is sound,
  pub read_sound : SoundSchedule s
  read_sound = rw ends.is (right_sound ends.tasks ends.chains ends.gap ends.right)

  -- so what writing it answers depends on the lent bytes alone.
  pub written_again : (lent : ℕ) → written_of s lent ≡ length_verdict (length b) lent
  written_again lent =
      sound_written s lent (ap (λ (r : Refusal). r.number) (no_refusal s read_sound)) ∙ ap (λ (f : List ℕ). length_verdict (length f) lent) spelt_again

  -- Writing what was read returns the file byte for byte: into lent bytes that are long enough.
  pub write_after_read : (old : List ℕ) → length b ≤ length old
      → (written_of s (length old) ≡ Ok (length b))
      × (left_bytes (written_of s (length old)) (file_bytes s) old ≡ b ++ drop (length b) old)
  unfolding length_verdict
  write_after_read old h =
      let w : written_of s (length old) ≡ Ok (length b) = written_again (length old) ∙ rw (le-leb (length b) (length old) h) refl in
      (w, ap (λ (x : Result ℕ Refusal). left_bytes x (file_bytes s) old) w ∙ ap (λ (f : List ℕ). f ++ drop (length f) old) spelt_again)

  -- It is the file of the schedule that was read, which writing accepts,
  pub read_arrays : Arrays s
  read_arrays = rw ends.is (right_arrays ends.tasks ends.chains ends.gap ends.right)

  -- of which every route has at most twelve places, those past the chains too,
  pub read_places : (c : ℕ) → c < 4 → (get_or s.routes c no_route).count ≤ 12
  read_places = rw ends.is (right_places ends.tasks ends.chains ends.gap ends.right)

  -- and of no other.
  pub one_schedule : (t : Schedule) (lent n : ℕ) → Arrays t → written_of t lent ≡ Ok n → file_bytes t ≡ b → cleared t ≡ s
  one_schedule t lent n a w e =
      let k : ◌≡◌ {A = Result Schedule Refusal} (Ok (cleared t)) (Ok s) = sym (read_after_write t lent n a w) ∙ ap read_file e ∙ fine in
      cc
