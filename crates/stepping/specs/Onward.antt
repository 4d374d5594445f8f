-- From the state at job m of the cut to the state at job m + 1 (`stands_on`), and the ranges of the moves.
use Rattle.std.specs.Prelude.{ℕ, zero, suc, ◌+◌, ◌-◌, ◌*◌, ◌/◌, ◌%◌, ◌≤◌, ◌<◌, ◌≡◌, List, length, get_or, set}
use Rattle.std.proofs.Common.{arith, add-mul, mod-lt, sym, ap, ◌∙◌, length-set, get_or-set_same, get_or-set_other}
use Rattle.std.proofs.Math.Decide.{dec_lt}
use Rattle.task.specs.declared.Place.{Place}
use Rattle.task.specs.Jobs.{read_of, write_of, readable_of}
use Rattle.task.proofs.LinkLaws.{job_small}
use Rattle.chain.specs.Chains.{at, forward_by, backward_by}
use Rattle.chain.specs.Checks.{Sound}
use Rattle.chain.specs.Ranges.{forward_fits, backward_fits}
use Rattle.timing.specs.WarmUp.{warm_at}
use Rattle.stepping.specs.OnePlace.{period_at, job_at, rest_at, moves_on}
use Rattle.stepping.specs.Went.{gone, gone_cut, other_ticks, Goes, Went, PlaceReady, Ready}
use Rattle.stepping.specs.Standing.{back_job, on_job, back_ticks, on_ticks, Standing, Reciprocals}
use Rattle.stepping.specs.Ways.{back_is, back_quotient, on_quotient}

-- ---- one place

-- Where the ticks of place i rose by what its neighbour went on by, its job and its rest are the quotient and the remainder of the new ticks.
goes_on : (r : List ℕ) (p : ℕ) (old new : List ℕ) (c i N N' T : ℕ) → 1 ≤ T → period_at r i ≡ T → Goes r p old new c i → job_at old i ≡ N / T → rest_at old i ≡ N % T → N' ≡ N + gone r p old new c
    → (N' / T ≡ job_at new i) × (N' % T ≡ rest_at new i)
goes_on r p old new c i N N' T pos e g j q up =
    let m = moves_on N N' T (job_at old i) (rest_at old i) (gone r p old new c) pos j q up in
    let a : job_at new i ≡ job_at old i + (rest_at old i + gone r p old new c) / T = rw e at g.job in
    let b : rest_at new i ≡ (rest_at old i + gone r p old new c) % T = rw e at g.rest in
    (m.0 ∙ sym a, m.1 ∙ sym b)

-- so many ticks later
read_later : (a : Place) (j j' w d : ℕ) → j' * a.period ≡ j * a.period + d → w ≤ read_of a j → read_of a j' - w ≡ read_of a j - w + d
read_later a j j' w d e h = omega arith

readable_later : (a : Place) (j j' w t d : ℕ) → j' * a.period ≡ j * a.period + d → w ≤ readable_of a j → readable_of a j' - w + t ≡ readable_of a j - w + t + d
readable_later a j j' w t d e h = omega arith

-- a place went on by the ticks of the jobs that it gained
gone_jobs : (r : List ℕ) (p : ℕ) (old new : List ℕ) (c i T : ℕ) → (i ≡ p → ⊥) → period_at r i ≡ T → Goes r p old new c i → job_at new i * T ≡ job_at old i * T + gone r p old new i
gone_jobs r p old new c i T apart e g =
    let k : ℕ = job_at new i - job_at old i in
    let a : job_at new i ≡ job_at old i + k = omega (arith, g.job) in
    rw (other_ticks r p i apart, e) (omega (arith, ap (λ (x : ℕ). x * T) a, add-mul (job_at old i) k T))

pub back_self : (l : List Place) (p m : ℕ) → back_job l p m p ≡ m
unfolding backward_by
back_self l p m = let a : p - p ≡ 0 = omega arith in rw a

pub on_self : (l : List Place) (p m : ℕ) → on_job l p m p ≡ m + 1
unfolding forward_by
on_self l p m = let a : p - p ≡ 0 = omega arith in rw a

-- ---- all places: first the cut, then those before it, then those after it

module _ (l : List Place) (ok : Sound l) (p : ℕ) (h : p < length l) (m : ℕ) (g : warm_at l p ≤ m) (r : List ℕ) (rs : Reciprocals l r) (old : List ℕ) (st : Standing l p m old) (cutJob : ℕ) where
  -- the places beside the cut move on whatever job is put there
  abbrev pub cut_moved : List ℕ
  cut_moved = set old (2 * p) cutJob

  other : (x : ℕ) → (x ≡ 2 * p → ⊥) → get_or cut_moved x 0 ≡ get_or old x 0
  other x u = get_or-set_other old (2 * p) x cutJob 0 u

  cut_long : length cut_moved ≡ length old
  cut_long = length-set old (2 * p) cutJob

  later : warm_at l p ≤ m + 1
  later = omega arith

  -- ---- ranges

  cut_few : p < 12
  cut_few = omega (arith, ok.few)

  cut_room : 3 * p + 3 ≤ length r
  cut_room = omega (arith, rs.long)

  cut_small : period_at r p ≤ 1000000
  cut_small = omega (arith, rs.all.period p h, (ok.each p h).period_max)

  place_small : (state : List ℕ) (i N : ℕ) → i < length l → rest_at state i ≡ N % (at l i).period → job_at state i ≤ 2000000000000 → PlaceReady r state i
  place_small state i N v q j = record {
    reciprocal = rs.all.each i v;
    rest = omega (arith, q, mod-lt N {m = (at l i).period} (ok.each i v).period_pos, (ok.each i v).period_max);
    job = j;
  }

  pub back_ready : read_of (at l p) m ≤ 1000000000000 → Ready r p cut_moved 0 p
  back_ready top = record {
    few = omega (arith, ok.few);
    inside = cut_few;
    cut_long = cut_room;
    cut_small = cut_small;
    constants_long = omega (arith, rs.long);
    state_long = omega (arith, st.long, cut_long);
    each = λ i a b. place_small cut_moved i (back_ticks l p m i) (omega arith) (other (2 * i + 1) (λ z. omega arith) ∙ st.all.back_rests i (omega arith) b) (omega (arith, other (2 * i) (λ z. omega arith), st.all.back_jobs i (omega arith) (omega arith), back_fits i b));
  }
    where
      back_fits : (i : ℕ) → i < p → back_job l p m i ≤ 1000000000000
      back_fits i u = omega (arith, job_small (at l i) (ok.each i (omega arith)).period_pos (back_job l p m i), backward_fits l ok i p (omega arith) h m _ (back_is l ok p h m g i (omega arith)))

  -- one job of the cut
  cut_goes : (m + 1) * (at l p).period ≡ m * (at l p).period + period_at r p
  cut_goes = omega (arith, rs.all.period p h, add-mul m 1 (at l p).period)

  -- ---- the places before the cut

  module _ (s : List ℕ) (back : Went r p (λ x. x + 1) 0 p cut_moved s) where
    -- place i, where its neighbour moved as the definition says
    back_one : (i : ℕ) → i < p → back_job l p (m + 1) (i + 1) * (at l (i + 1)).period ≡ back_job l p m (i + 1) * (at l (i + 1)).period + gone r p cut_moved s (i + 1)
        → (back_job l p (m + 1) i ≡ job_at s i) × (back_ticks l p (m + 1) i % (at l i).period ≡ rest_at s i)
    unfolding back_ticks
    back_one i u ih =
        let a = back_quotient l ok p h m g i u in
        let b = back_quotient l ok p h (m + 1) later i u in
        let n : back_ticks l p (m + 1) i ≡ back_ticks l p m i + gone r p cut_moved s (i + 1)
        = read_later (at l (i + 1)) (back_job l p m (i + 1)) (back_job l p (m + 1) (i + 1)) (readable_of (at l i) 0) (gone r p cut_moved s (i + 1)) ih a.0 in
        let q =
        goes_on r p cut_moved s (i + 1) i (back_ticks l p m i) (back_ticks l p (m + 1) i) (at l i).period (ok.each i (omega arith)).period_pos (rs.all.period i (omega arith)) (back.each i (omega arith) u)
        (other (2 * i) (λ z. omega arith) ∙ st.all.back_jobs i (omega arith) (omega arith) ∙ a.1) (other (2 * i + 1) (λ z. omega arith) ∙ st.all.back_rests i (omega arith) u) n in
        (b.1 ∙ q.0, q.1)

    -- every place moved as the definition says, from the cut on
    back_moves : (d i : ℕ) → i + d ≡ p → back_job l p (m + 1) i * (at l i).period ≡ back_job l p m i * (at l i).period + gone r p cut_moved s i
    back_moves zero i e =
        let q : i ≡ p = omega arith in
        rw (q, back_self l p (m + 1), back_self l p m, sym (gone_cut r p cut_moved s (back.high (2 * p) (omega arith)))) cut_goes
    back_moves (suc d) i e =
        let f = back_one i (omega arith) (back_moves d (i + 1) (omega arith)) in
        let k : job_at cut_moved i ≡ back_job l p m i = other (2 * i) (λ z. omega arith) ∙ st.all.back_jobs i (omega arith) (omega arith) in
        rw (f.0, sym k) (gone_jobs r p cut_moved s (i + 1) i (at l i).period (λ z. omega arith) (rs.all.period i (omega arith)) (back.each i (omega arith) (omega arith)))

    back_stands : (i : ℕ) → i < p → (back_job l p (m + 1) i ≡ job_at s i) × (back_ticks l p (m + 1) i % (at l i).period ≡ rest_at s i)
    back_stands i u = back_one i u (back_moves (p - (i + 1)) (i + 1) (omega arith))

    -- ---- the places after the cut, which stand in s as they stood

    stood_job : (c : ℕ) → p ≤ c → c + 1 < length l → job_at s (c + 1) ≡ on_job l p m (c + 1)
    stood_job c u v = back.high (2 * (c + 1)) (omega arith) ∙ other (2 * (c + 1)) (λ z. omega arith) ∙ st.all.on_jobs c u v

    stood_rest : (c : ℕ) → p ≤ c → c + 1 < length l → rest_at s (c + 1) ≡ on_ticks l p m c % (at l (c + 1)).period
    stood_rest c u v = back.high (2 * (c + 1) + 1) (omega arith) ∙ other (2 * (c + 1) + 1) (λ z. omega arith) ∙ st.all.on_rests c u v

    on_fits : write_of (at l p) (m + 1) ≤ 1000000000000 → (i : ℕ) → p ≤ i → i < length l → on_job l p m i ≤ 2000000000000
    on_fits top i u v = omega (arith, job_small (at l i) (ok.each i v).period_pos (on_job l p m i), forward_fits l ok p i u v (m + 1))

    pub on_ready : write_of (at l p) (m + 1) ≤ 1000000000000 → Ready r p s (p + 1) (length l)
    on_ready top = record {
      few = ok.few;
      inside = cut_few;
      cut_long = cut_room;
      cut_small = cut_small;
      constants_long = rs.long;
      state_long = omega (arith, st.long, cut_long, back.long);
      each = λ i a b. go i (i - 1) (omega arith) a b;
    }
      where
        go : (i c : ℕ) → i ≡ c + 1 → p + 1 ≤ i → i < length l → PlaceReady r s i
        go i c e a b =
            let f : PlaceReady r s (c + 1) = place_small s (c + 1) (on_ticks l p m c) (omega arith) (stood_rest c (omega arith) (omega arith)) (omega (arith, stood_job c (omega arith) (omega arith), on_fits top (c + 1) (omega arith) (omega arith))) in
            rw e f

    module _ (new : List ℕ) (on : Went r p (λ x. x - 1) (p + 1) (length l) s new) where
      on_goes : (c : ℕ) → p ≤ c → c + 1 < length l → Goes r p s new c (c + 1)
      on_goes c u v = let e : c + 1 - 1 ≡ c = omega arith in rw e at (on.each (c + 1) (omega arith) v)

      on_one : (c : ℕ) → p ≤ c → c + 1 < length l → on_job l p (m + 1) c * (at l c).period ≡ on_job l p m c * (at l c).period + gone r p s new c
          → (on_job l p (m + 1) (c + 1) ≡ job_at new (c + 1)) × (on_ticks l p (m + 1) c % (at l (c + 1)).period ≡ rest_at new (c + 1))
      unfolding on_ticks
      on_one c u v ih =
          let a = on_quotient l ok p h m g c u v in
          let b = on_quotient l ok p h (m + 1) later c u v in
          let n : on_ticks l p (m + 1) c ≡ on_ticks l p m c + gone r p s new c
          = readable_later (at l c) (on_job l p m c) (on_job l p (m + 1) c) (at l (c + 1)).phase ((at l (c + 1)).period - 1) (gone r p s new c) ih a.0 in
          let q =
          goes_on r p s new c (c + 1) (on_ticks l p m c) (on_ticks l p (m + 1) c) (at l (c + 1)).period (ok.each (c + 1) v).period_pos (rs.all.period (c + 1) v) (on_goes c u v) (stood_job c u v ∙ a.1) (stood_rest c u v) n in
          (b.1 ∙ q.0, q.1)

      on_moves : (d : ℕ) → p + d < length l → on_job l p (m + 1) (p + d) * (at l (p + d)).period ≡ on_job l p m (p + d) * (at l (p + d)).period + gone r p s new (p + d)
      on_moves zero v =
          let q : p + 0 ≡ p = omega arith in
          rw (q, on_self l p (m + 1), on_self l p m, sym (gone_cut r p s new (on.low (2 * p) (omega arith)))) (omega (arith, cut_goes, add-mul (m + 1) 1 (at l p).period, rs.all.period p h))
      on_moves (suc d) v =
          let q : p + suc d ≡ p + d + 1 = omega arith in
          let f = on_one (p + d) (omega arith) (omega arith) (on_moves d (omega arith)) in
          rw (q, f.0, sym (stood_job (p + d) (omega arith) (omega arith)))
          (gone_jobs r p s new (p + d) (p + d + 1) (at l (p + d + 1)).period (λ z. omega arith) (rs.all.period (p + d + 1) (omega arith)) (on_goes (p + d) (omega arith) (omega arith)))

      on_stands : (c : ℕ) → p ≤ c → c + 1 < length l → (on_job l p (m + 1) (c + 1) ≡ job_at new (c + 1)) × (on_ticks l p (m + 1) c % (at l (c + 1)).period ≡ rest_at new (c + 1))
      on_stands c u v = let q : p + (c - p) ≡ c = omega arith in on_one c u v (rw q at (on_moves (c - p) (omega arith)))

      -- Where the cut's job is the next one, the state stands at it.
      pub stands_on : cutJob ≡ m + 1 → Standing l p (m + 1) new
      stands_on is = record {
        long = omega (arith, st.long, cut_long, back.long, on.long);
        all = record {
          back_jobs = λ i a u. elim (dec_lt i p) [
            | yes k ↦ on.low (2 * i) (omega arith) ∙ sym (back_stands i k).0
            | no k ↦
                let e : i ≡ p = omega arith in
                rw e (on.low (2 * p) (omega arith) ∙ back.high (2 * p) (omega arith) ∙ get_or-set_same old (2 * p) cutJob 0 (omega (arith, st.long)) ∙ is ∙ sym (back_self l p (m + 1)))
          ];
          back_rests = λ i a u. on.low (2 * i + 1) (omega arith) ∙ sym (back_stands i u).1;
          on_jobs = λ c u w. sym (on_stands c u w).0;
          on_rests = λ c u w. sym (on_stands c u w).1;
        };
      }
