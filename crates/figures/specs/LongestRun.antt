-- Runs above B of any figure that repeats every H ticks: where one of H ticks is not above B, a scan of two rounds finds the longest run
-- of all time; else the run has no end. No table is mentioned.
use Rattle.std.specs.Prelude.{◌≡◌, Bool, true, false, leb}
use Rattle.std.proofs.Math.Path.{refl}
use Rattle.std.proofs.Common.{sym, ap, ◌∙◌, true≢false, add-suc, suc-add, div-add-mod', lt-ltb, le-ltb, le-leb}
use Rattle.std.proofs.lemmas.Bool.{false≢true, lt-leb}
use Prim.Native.Nat.{ℕ, zero, suc, ◌+◌, ◌-◌, ◌*◌, ◌/◌, ◌%◌, ◌≤◌, ◌<◌, max}
use Rattle.std.proofs.Math.Nat.{add-zero, mod-lt, max-eq_left, max-eq_right}
use Rattle.std.proofs.Math.Decide.{dec_lt, dec_le}
use native.Mathlib.Omega.{arith}
use Rattle.figures.specs.declared.Scan.{Scan}
use Rattle.figures.specs.Ticks.{ticks, every_above, scan, tick, longest_run, Run, Longest}

-- a run of length n between two ticks
pub record Has (B : ℕ) (f : ℕ → ℕ) (from to n : ℕ) : Type 0 where
  pub at : ℕ
  pub late : from ≤ at
  pub soon : at + n ≤ to
  pub run : Run B f at n

-- z is the scan of the ticks from `from` up to s
pub record Scanned (B : ℕ) (f : ℕ → ℕ) (from s : ℕ) (z : Scan) : Type 0 where
  pub fits : from + z.run ≤ s
  pub ends : (t : ℕ) → s ≤ t + z.run → t < s → B < f t
  pub starts : (t : ℕ) → from ≤ t → t + z.run + 1 ≡ s → f t ≤ B
  pub has : Has B f from s z.best
  pub none : (a m : ℕ) → from ≤ a → a + m ≤ s → Run B f a m → m ≤ z.best

module _ (B : ℕ) (f : ℕ → ℕ) (from : ℕ) where
  scan_yes : (s : ℕ) (z : Scan) → B < f s → Scanned B f from s z → Scanned B f from (suc s) (scan (suc z.run) (max z.best (suc z.run)))
  scan_yes s z h c = record { fits = omega arith; ends = ends; starts = λ t l e. c.starts t l (omega arith); has = has; none = none }
    where
      ends : (t : ℕ) → suc s ≤ t + suc z.run → t < suc s → B < f t
      ends t l k = elim (dec_lt t s) [
        | yes d ↦ c.ends t (omega arith) d
        | no d ↦ let e : t ≡ s = omega arith in rw e h
      ]

      has : Has B f from (suc s) (max z.best (suc z.run))
      has = elim (dec_le (suc z.run) z.best) [
        | yes d ↦ rw (max-eq_left d) (record { at = c.has.at; late = c.has.late; soon = omega (arith, c.has.soon); run = c.has.run })
        | no d ↦
            let e : max z.best (suc z.run) ≡ suc z.run = max-eq_right (omega arith) in
            rw e (record {
              at = s - z.run;
              late = omega (arith, c.fits);
              soon = omega (arith, c.fits);
              run = λ t l k. ends t (omega (arith, c.fits)) (omega (arith, c.fits));
            })
      ]

      -- a run that ends with this tick is no longer than the present one
      none : (a m : ℕ) → from ≤ a → a + m ≤ suc s → Run B f a m → m ≤ max z.best (suc z.run)
      none a m l k r = elim (dec_le (a + m) s) [
        | yes d ↦ omega (arith, c.none a m l d r)
        | no d ↦ elim (dec_le m (suc z.run)) [
          | yes b ↦ omega arith
          | no b ↦ omega (arith, c.starts (s - z.run - 1) (omega arith) (omega arith), r (s - z.run - 1) (omega arith) (omega arith))
        ]
      ]

  scan_no : (s : ℕ) (z : Scan) → f s ≤ B → Scanned B f from s z → Scanned B f from (suc s) (scan 0 z.best)
  scan_no s z h c = record {
    fits = omega (arith, c.fits);
    ends = λ t l k. omega arith;
    starts = λ t l e. let q : t ≡ s = omega arith in rw q h;
    has = record { at = c.has.at; late = c.has.late; soon = omega (arith, c.has.soon); run = c.has.run };
    none = none;
  }
    where
      none : (a m : ℕ) → from ≤ a → a + m ≤ suc s → Run B f a m → m ≤ z.best
      none a m l k r = elim (dec_le (a + m) s) [
        | yes d ↦ c.none a m l d r
        | no d ↦ elim (dec_lt 0 m) [ yes b ↦ omega (arith, r s (omega arith) (omega arith)) | no b ↦ omega arith ]
      ]

  scan_tick : (s : ℕ) (z : Scan) → Scanned B f from s z → Scanned B f from (suc s) (tick B z (f s))
  scan_tick s z c = elim (dec_lt B (f s)) [
    | yes h ↦ rw (lt-ltb B (f s) h) (scan_yes s z h c)
    | no h ↦ rw (le-ltb B (f s) (omega arith)) (scan_no s z (omega arith) c)
  ]

  scan_ticks : (n s : ℕ) (z : Scan) → Scanned B f from s z → Scanned B f from (s + n) (ticks (tick B) f s n z)
  unfolding ticks
  scan_ticks zero s z c = rw add-zero c
  scan_ticks (suc n) s z c = rw (add-suc, ← suc-add) (scan_ticks n (suc s) (tick B z (f s)) (scan_tick s z c))

  -- the scan of the n ticks from `from` on
  scanned : (n : ℕ) → Scanned B f from (from + n) (ticks (tick B) f from n (scan 0 0))
  scanned n = scan_ticks n from (scan 0 0) (record {
    fits = omega arith;
    ends = λ t l k. omega arith;
    starts = λ t l e. omega arith;
    has = record { at = from; late = omega arith; soon = omega arith; run = λ t l k. omega arith };
    none = λ a m l k r. omega arith;
  })

  every_true : (n s : ℕ) → every_above B f s n ≡ true → Run B f s n
  unfolding every_above
  every_true zero s h t l k = omega arith
  every_true (suc n) s h t l k = elim (dec_lt B (f s)) [
    | yes d ↦ elim (dec_lt s t) [
      | yes b ↦ every_true n (suc s) (rw (lt-ltb B (f s) d) at h) t b (omega arith)
      | no b ↦ let e : t ≡ s = omega arith in rw e d
    ]
    | no d ↦ absurd (false≢true (rw (le-ltb B (f s) (omega arith)) at h))
  ]

  pub every_run : (n s : ℕ) → Run B f s n → every_above B f s n ≡ true
  unfolding every_above
  every_run zero s r = refl
  every_run (suc n) s r = rw (lt-ltb B (f s) (r s (omega arith) (omega arith))) (every_run n (suc s) (λ t l k. r t (omega arith) (omega arith)))

  every_false : (n s : ℕ) → every_above B f s n ≡ false → (t : ℕ) × (s ≤ t) × (t < s + n) × (f t ≤ B)
  unfolding every_above
  every_false zero s h = absurd (true≢false h)
  every_false (suc n) s h = elim (dec_lt B (f s)) [
    | yes d ↦ let q = every_false n (suc s) (rw (lt-ltb B (f s) d) at h) in (q.0, omega arith, omega arith, q.3)
    | no d ↦ (s, omega arith, omega arith, omega arith)
  ]

  -- all of n ticks are above B exactly if the run at their end has all of them
  pub every_scan : (n : ℕ) → every_above B f from n ≡ leb n (ticks (tick B) f from n (scan 0 0)).run
  every_scan n = go (scanned n)
    where
      go : {z : Scan} → Scanned B f from (from + n) z → every_above B f from n ≡ leb n z.run
      go {z} c = elim (dec_le n z.run) [
        | yes h ↦ every_run n from (λ t l k. c.ends t (omega arith) k) ∙ sym (le-leb n z.run h)
        | no h ↦ stopped (every_above B f from n) refl (from + n - z.run - 1) (omega arith) (omega arith) (c.starts (from + n - z.run - 1) (omega arith) (omega arith)) ∙ sym (lt-leb n z.run (omega arith))
      ]
        where
          stopped : (b : Bool) → every_above B f from n ≡ b → (t : ℕ) → from ≤ t → t < from + n → f t ≤ B → every_above B f from n ≡ false
          stopped true e t l k h = absurd (omega (arith, every_true n from e t l k))
          stopped false e t l k h = e

  -- f repeats every H ticks from `from` on
  module _ (H : ℕ) (some : 0 < H) (again : (t k : ℕ) → from ≤ t → f (t + k * H) ≡ f t) where
    -- each tick repeats one of the first H
    home : (t : ℕ) → from ≤ t → f t ≡ f (from + (t - from) % H)
    home t l =
        let e : t ≡ from + (t - from) % H + (t - from) / H * H = omega (arith, div-add-mod' (t - from) H) in
        ap f e ∙ again (from + (t - from) % H) ((t - from) / H) (omega arith)

    pub endless_all : every_above B f from H ≡ true → (t : ℕ) → from ≤ t → B < f t
    endless_all h t l = rw (home t l) (every_true H from h (from + (t - from) % H) (omega arith) (omega (arith, mod-lt (t - from) some)))

    -- a run moved into the first round
    moved : (s m : ℕ) → from ≤ s → Run B f s m → Run B f (from + (s - from) % H) m
    moved s m l r t a b =
        let e : s ≡ from + (s - from) % H + (s - from) / H * H = omega (arith, div-add-mod' (s - from) H) in
        rw (again t ((s - from) / H) (omega arith)) at (r (t + (s - from) / H * H) (omega arith) (omega arith))

    -- a run that begins in the first round ends within two
    inside : (q s m : ℕ) → from ≤ q → q < from + H → f q ≤ B → from ≤ s → s < from + H → Run B f s m → s + m ≤ from + 2 * H
    inside q s m a b c l k r = elim (dec_le (s + m) (from + 2 * H)) [
      | yes d ↦ d
      | no d ↦ elim (dec_le s q) [
        | yes p ↦ omega (arith, r q p (omega arith))
        | no p ↦ omega (arith, r (q + 1 * H) (omega arith) (omega arith), again q 1 a)
      ]
    ]

    -- where some tick is not above B, two rounds show the longest run of all time
    pub longest_run_holds : every_above B f from H ≡ false → Longest B f from (longest_run B f from (2 * H))
    unfolding longest_run
    longest_run_holds h =
        let q = every_false H from h in
        let c = scanned (2 * H) in
        record {
          at = c.has.at;
          late = c.has.late;
          run = c.has.run;
          none = λ s m l r.
              let b : from + (s - from) % H < from + H = omega (arith, mod-lt (s - from) some) in
              let v : Run B f (from + (s - from) % H) m = moved s m l r in
              c.none (from + (s - from) % H) m (omega arith) (inside q.0 (from + (s - from) % H) m q.1 q.2 q.3 (omega arith) b v) v;
        }
