-- What the theorems say of the values that the functions answer.
use Rattle.std.specs.Prelude.{Ok, Result}
use Prim.Native.Nat.{ℕ, suc, ◌+◌, ◌-◌, ◌≤◌, ◌<◌}
use native.Mathlib.Omega.{arith}
use mathlib.Core.Path.{◌≡◌, sym, ap, ◌∙◌}
use mathlib.Core.List.{List}
use lib.ListN.{length, get_or}
use borrow.Author.Tests.{le-leb, lt-leb}
use Rattle.refusal.specs.declared.Refusal.{Refusal}
use Rattle.maker.specs.declared.Unmade.{Unmade}
use Rattle.chain.specs.declared.Chain.{Chain}
use Rattle.chain.specs.Chains.{tasks_of}
use Rattle.chain.specs.Checks.{verdict_of}
use Rattle.timing.specs.WarmUp.{warm_tick}
use Rattle.timing.specs.Delay.{delay_at, first_aged, age_at}
use Rattle.timing.specs.Answers.{upper_tick, delay_of, age_of}
use Rattle.timing.specs.Spans.{span_answered}
use Rattle.table.specs.Reading.{reading}
use Rattle.figures.specs.Figures.{greatest_of}
use Rattle.maker.specs.declared.Figures.{Figures}
use Rattle.maker.specs.Making.{told, Makes}
use Rattle.agreement.specs.Agreement.{SameGreatest, held, table_is_walk, cuts_agree, greatest_is_delay_and_age}
use Rattle.agreement.specs.Reached.{Reached, anchor_reaches}
use Rattle.agreement.specs.Answers.{read_from, greatest_from, last_before, ReadAndWalked, CutTwice, NotExceeded, ReachedThere}

-- ---- the last tick before a write

module _ (start latency : ℕ) where
  pub before_none : latency < 1 → 0 ≡ last_before start latency
  before_none h = rw (lt-leb 1 latency h)

  pub before_far : 1 ≤ latency → upper_tick < start + latency → 0 ≡ last_before start latency
  before_far g h = rw (le-leb 1 latency g, lt-leb (start + latency) upper_tick h)

  pub before_there : 1 ≤ latency → start + latency ≤ upper_tick → start + latency - 1 ≡ last_before start latency
  before_there g h = rw (le-leb 1 latency g, le-leb (start + latency) upper_tick h)

-- ---- what the functions answer

module _ (c : Chain) (twelve : length c.tasks ≡ 12) (p : ℕ) (s v s' v' : List ℕ) (m : Result Figures Unmade) (makes : Makes c p s v s' v' m) where
  made : (f : Figures) → m ≡ Ok f → Makes c p s v s' v' (Ok f)
  made f whole = rw whole at makes

  agreed : (f : Figures) → m ≡ Ok f → SameGreatest c s' v' f
  agreed f whole = greatest_is_delay_and_age c twelve p s v s' v' f (made f whole)

  -- g and H are those that making told
  module _ (g H : ℕ) (given : (g ≡ (told m).anchors) × (H ≡ (told m).hyperperiod)) where
    -- anything that is had with them
    with_told : {A : Type 0} (f : ℕ → ℕ → A) → f g H ≡ f (told m).anchors (told m).hyperperiod
    with_told f = ap (λ (x : ℕ). f x H) given.0 ∙ ap (f (told m).anchors) given.1

    pub both_delays : (t : ℕ) (x : Result ℕ Refusal) → x ≡ reading s' v' g H t → (w : Result ℕ Refusal) → w ≡ delay_of c t
        → ReadAndWalked c p t s v s' v' (record { made = m; read = x; walked = w })
    both_delays t x e w d =
        let read : x ≡ read_from m s' v' t = e ∙ with_told (λ (x y : ℕ). reading s' v' x y t) in
        record {
          makes = makes;
          reads = read;
          walks = d;
          agree = λ f whole low high.
              let a = table_is_walk c twelve p s v s' v' f (made f whole) t low high in
              record { delay = a.delay; walked = d ∙ a.walked; read = read ∙ ap (λ (n : Result Figures Unmade). read_from n s' v' t) whole ∙ a.read };
        }

    -- x is the greatest latency as it was answered
    module _ (x : Result ℕ Refusal) (e : x ≡ greatest_of s' v' g H) where
      pub greatest_given : x ≡ greatest_from m s' v'
      greatest_given = e ∙ with_told (greatest_of s' v')

      is_greatest : (f : Figures) (whole : m ≡ Ok f) → x ≡ Ok (agreed f whole).latency
      is_greatest f whole = greatest_given ∙ ap (λ (n : Result Figures Unmade). greatest_from n s' v') whole ∙ (agreed f whole).answered

      within : (f : Figures) (whole : m ≡ Ok f) (t n : ℕ) → delay_of c t ≡ Ok n → n ≤ (agreed f whole).latency
      within f whole t n d =
          let k = span_answered (verdict_of c) (warm_tick (tasks_of c)) t (delay_at (tasks_of c) t) n d in
          omega (arith, k.is, (agreed f whole).greatest_delay.bound t (omega (arith, k.early, (held c twelve p s v s' v' f (made f whole)).tick)) k.late)

      age_within : (f : Figures) (whole : m ≡ Ok f) (z n : ℕ) → age_of c z ≡ Ok n → suc n ≤ (agreed f whole).latency
      age_within f whole z n a =
          let k = span_answered (verdict_of c) (first_aged (tasks_of c)) z (age_at (tasks_of c) z) n a in
          omega (arith, k.is, (agreed f whole).greatest_age.bound z k.early k.late)

      pub bounded : (t z : ℕ) (w y : Result ℕ Refusal) → w ≡ delay_of c t → y ≡ age_of c z
          → NotExceeded c p t z s v s' v' (record { made = m; greatest = x; delay = w; age = y })
      bounded t z w y d a = record {
        makes = makes;
        greatest = greatest_given;
        walks = d;
        ages = a;
        agree = λ f whole. record {
          latency = (agreed f whole).latency;
          is_greatest = is_greatest f whole;
          delay_within = λ n q. within f whole t n (sym d ∙ q);
          age_within = λ n q. age_within f whole z n (sym a ∙ q);
        };
      }

      -- at anchor j
      module _ (j u l : ℕ) (w y : Result ℕ Refusal) (from : u ≡ get_or s' j 0) (long : l ≡ get_or v' j 0) (d : w ≡ delay_of c u) (z : ℕ) (last : z ≡ last_before u l) (a : y ≡ age_of c z) where
        there : (f : Figures) (whole : m ≡ Ok f) → j < f.anchors → x ≡ Ok l → Reached c u l
        there f whole h top =
            let k = agreed f whole in
            let q : get_or v' j 0 ≡ k.latency = let b = is_greatest f whole in sym long ∙ same l k.latency x top b in
            let r = anchor_reaches c twelve p s v s' v' f (made f whole) j h (q ∙ sym k.greatest_latency_holds) in
            rw (from, long) r
          where
            same : (n o : ℕ) (y : Result ℕ Refusal) → y ≡ Ok n → y ≡ Ok o → n ≡ o
            same n o y e g = cc

        pub reached : ReachedThere c p j s v s' v' (record { made = m; greatest = x; start = u; latency = l; delay = w; age = y })
        reached = record {
          makes = makes;
          greatest = greatest_given;
          starts_at = from;
          lasts = long;
          walks = d;
          ages = a ∙ ap (age_of c) last;
          agree = λ f whole h top.
              let r = there f whole h top in
              (d ∙ r.delay, a ∙ ap (age_of c) (last ∙ sym (before_there u l r.some r.small)) ∙ r.age, r.some);
        }

-- ---- two cuts

module _ (c : Chain) (twelve : length c.tasks ≡ 12) (p q : ℕ) (s v s' v' : List ℕ) (m : Result Figures Unmade) (makes : Makes c p s v s' v' m)
    (x y x' y' : List ℕ) (n : Result Figures Unmade) (other : Makes c q x y x' y' n) where
  pub two_cuts : CutTwice c p q s v s' v' x y x' y' (record { first = m; second = n })
  two_cuts = record {
    makes = makes;
    makes_other = other;
    agree = λ f g first second.
        cuts_agree c twelve p q s v s' v' f (made c twelve p s v s' v' m makes f first) x y x' y' g (made c twelve q x y x' y' n other g second);
  }
