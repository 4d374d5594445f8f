-- A well-formed table on a finer clock: within each tick its delay falls by one, so the mean by area is the mean of its delay at every time,
-- the integral over a hyperperiod, whichever it is, divided by H.
use Rattle.std.specs.Prelude.{◌≡◌, ℕ, ◌+◌, ◌-◌, ◌*◌, ◌/◌, ◌%◌, ◌≤◌, ◌<◌, get_or}
use Rattle.std.proofs.Math.Path.{refl}
use Rattle.std.proofs.Common.{sym, ap, ◌∙◌, mod-lt, mod-eq_of_lt, div-add-mod', arith}
use mathlib.Core.List.{List, [], ◌∷◌, map}
use Rattle.std.proofs.Math.Nat.{mul-sub, mul-le-mul_left, add-mul-mod_self_right}
use Rattle.std.proofs.Math.Decide.{dec_le}
use borrow.Author.Tests.{le-leb, lt-leb}
use Rattle.table.specs.Anchors.{Anchor, anchor, anchors, first_start}
use Rattle.table.specs.WellFormed.{WellFormed}
use Rattle.table.specs.Reading.{last_at, gives, delay_at}
use Rattle.table.specs.Segments.{Formed, delay_again}
use Rattle.table.specs.BothWays.{well_formed_laws, well_formed_iff}
use Rattle.table.specs.EveryTable.{first_start_holds}
use Rattle.figures.specs.Ticks.{total}
use Rattle.figures.specs.Figures.{doubled_area, mean_of, mean_by}
use Rattle.figures.specs.Folding.{total_same, total_round}
use Rattle.figures.proofs.Area.{some_delay, area_ticks}
use Rattle.figures.specs.Integral.{Timed, Falls, Integral, tick_area, falls_integral}

-- The anchors on a clock that is n times finer: each start and each latency is n times as many ticks.
abbrev pub finer_anchor : ℕ → Anchor → Anchor
finer_anchor n x = anchor (n * x.start) (n * x.latency)

abbrev pub finer_table : ℕ → List Anchor → List Anchor
finer_table n l = map (finer_anchor n) l

-- The delay that a table gives, as a figure of time.
abbrev pub delay_timed : ℕ → List Anchor → Timed
delay_timed H l n u = delay_at (n * H) (finer_table n l) u

module _ (n i : ℕ) (part : i < n) where
  -- the same anchor is the last
  last_finer : (u : ℕ) (x : Anchor) (l : List Anchor) → last_at (n * u + i) (finer_anchor n x) (finer_table n l) ≡ finer_anchor n (last_at u x l)
  unfolding last_at
  last_finer u x [] = refl
  last_finer u x (y ∷ l) = elim (dec_le y.start u) [
    | yes h ↦ rw (le-leb y.start u h, le-leb (n * y.start) (n * u + i) (omega (arith, mul-le-mul_left n h)), last_at) (last_finer u y l)
    | no h ↦ rw (lt-leb y.start u (omega arith), lt-leb (n * y.start) (n * u + i) (omega (arith, mul-le-mul_left {m = u + 1} {n = y.start} n (omega arith))), last_at) (last_finer u x l)
  ]

  -- and gives the same delay, less the part of the tick
  gives_finer : (u : ℕ) (x : Anchor) → x.start ≤ u → gives (n * u + i) (finer_anchor n x) ≡ n * gives u x - i
  gives_finer u x h =
      omega (arith, mul-sub n x.latency (u - x.start), mul-sub n u x.start, mul-le-mul_left n h)

  -- the remainder by H
  remainder_finer : (d H : ℕ) → 0 < H → (n * d + i) % (n * H) ≡ n * (d % H) + i
  remainder_finer d H some =
      let r : ℕ = d % H in
      let e : n * d + i ≡ n * r + i + d / H * (n * H) = omega (arith, ap (λ (x : ℕ). n * x) (div-add-mod' d H)) in
      rw e (add-mul-mod_self_right (n * r + i) (d / H) (n * H) ∙ mod-eq_of_lt (omega (arith, mul-le-mul_left {m = r + 1} {n = H} n (omega (arith, mod-lt d some)))))

-- the last anchor at or before u starts at or before u
last_before_holds : (u : ℕ) (x : Anchor) (l : List Anchor) → x.start ≤ u → (last_at u x l).start ≤ u
unfolding last_at
last_before_holds u x [] h = h
last_before_holds u x (y ∷ l) h = elim (dec_le y.start u) [
  | yes k ↦ rw (le-leb y.start u k, last_at) (last_before_holds u y l k)
  | no k ↦ rw (lt-leb y.start u (omega arith), last_at) (last_before_holds u x l h)
]

at_finer : (H : ℕ) (l : List Anchor) → 0 < H → (n t i : ℕ) → first_start l ≤ t → i < n → delay_timed H l n (n * t + i) ≡ n * delay_at H l t - i
unfolding delay_at
at_finer H [] some n t i h part = omega arith
at_finer H (x ∷ l) some n t i h part =
    let u : ℕ = x.start + (t - x.start) % H in
    let d : n * t + i - n * x.start ≡ n * (t - x.start) + i = omega (arith, mul-sub n t x.start, mul-le-mul_left n h) in
    let e : n * x.start + (n * (t - x.start) + i) % (n * H) ≡ n * u + i = omega (arith, remainder_finer n i part (t - x.start) H some) in
    rw (d, e, last_finer n i part u x l) (gives_finer n i part u (last_at u x l) (last_before_holds u x l (omega arith)))

module _ (H : ℕ) (l : List Anchor) (formed : Formed H l) where
  -- Within each tick the delay falls by one.
  pub table_falls : Falls (delay_timed H l) (delay_at H l) (first_start l)
  table_falls n t i h part = omega (arith, at_finer H l formed.some n t i h part, mul-le-mul_left n (some_delay H l formed t h))

  -- the areas of H ticks, from any tick on
  area_from : (t : ℕ) → first_start l ≤ t → doubled_area H l ≡ total (λ u. tick_area (delay_at H l u)) t H
  area_from t h =
      let e : first_start l + (t - first_start l) ≡ t = omega arith in
      area_ticks H l formed ∙ sym (rw e at (total_round (λ u. tick_area (delay_at H l u)) H (first_start l) (t - first_start l) (λ u k. ap tick_area (again u k))))
    where
      again : (u : ℕ) → first_start l ≤ u → delay_at H l (u + H) ≡ delay_at H l u
      again u k = ap (delay_at H l) {x = u + H} {y = u + 1 * H} (omega arith) ∙ delay_again H l formed u 1 k

  -- Of any figure of time that has the table's delays at whole ticks and falls by one within each, twice the integral over any hyperperiod.
  pub area_integral : (f : Timed) (g : ℕ → ℕ) → Falls f g (first_start l) → ((t : ℕ) → first_start l ≤ t → g t ≡ delay_at H l t) → (t : ℕ) → first_start l ≤ t → Integral f g t H (doubled_area H l)
  area_integral f g falls same t h =
      let e : doubled_area H l ≡ total (λ u. tick_area (g u)) t H
      = area_from t h ∙ total_same (λ u. tick_area (delay_at H l u)) (λ u. tick_area (g u)) H t t (λ i k. ap tick_area (sym (same (t + i) (omega arith)))) in
      rw e (falls_integral f g t H (λ n u i a b. falls n u i (omega arith) b))

-- The mean of every well-formed table, said of its two lists, g and H: the call answers twice the integral of its delay over any hyperperiod, and twice H.
pub record MeanOfAll (s v : List ℕ) (g H : ℕ) : Type 0 where
  pub doubled : ℕ
  pub answered : mean_of s v g H ≡ mean_by doubled (2 * H)
  pub integral : (t : ℕ) → get_or s 0 0 ≤ t → Integral (delay_timed H (anchors s v g)) (delay_at H (anchors s v g)) t H doubled

pub mean_of_all : (s v : List ℕ) (g H : ℕ) → WellFormed s v g H → MeanOfAll s v g H
unfolding mean_of
mean_of_all s v g H w =
    let l : List Anchor = anchors s v g in
    let formed : Formed H l = well_formed_laws s v g H w in
    record {
      doubled = doubled_area H l;
      answered = rw ((well_formed_iff s v g H).1 w);
      integral = λ t h. area_integral H l formed (delay_timed H l) (delay_at H l) (table_falls H l formed) (λ u k. refl) t (omega (arith, first_start_holds s v g H w));
    }
