-- THE RUNS OF A CLASS, WRITTEN ONE BY ONE: bytes that are not in the class are passed over, and a run goes up to the first byte that is not in it; what
-- is then left to write is the writing of the class from there on.
use mathlib.Core.Path.{◌≡◌, refl, sym, ap, ap₂, ◌∙◌}
use mathlib.Core.Logic.{⊎_elim}
use mathlib.Core.Bool.{Bool, true, false, true≢false}
use mathlib.Core.List.{List, [], ◌++◌, append_assoc, append-nil}
use Prim.Native.Nat.{ℕ, zero, suc, ◌+◌, ◌-◌, ◌*◌, ◌≤◌, ◌<◌}
use native.Mathlib.Nat.{eq-or-lt_of_le}
use native.Mathlib.Omega.{arith}
use lib.ListN.{length, length-append}
use Rattle.model.specs.Bits.{bit}
use Rattle.model.specs.Writing.{inside, outside, run_writing}
use Rattle.model.proofs.Laws.Bool.{le_or_lt}
use Rattle.writing_letters.specs.Runs.{FirstIn, FirstOut}
use Rattle.writing_letters.proofs.Laws.Bytes.{run_short}
use Rattle.writing_letters.proofs.Laws.Texts.{Writes, writes_as, writes_none, writes_then}

-- ---- the bytes from a on, and below b, are all in the class c, or all out of it
abbrev pub All : Bool → ℕ → ℕ → ℕ → Type 0
All v c a b = (x : ℕ) → a ≤ x → x < b → bit c x ≡ v

module _ {v : Bool} (c a : ℕ) where
  pub all_none : All v c a a
  all_none x h k = absurd (omega arith)

  -- and on to another byte
  pub all_then : (b d : ℕ) → All v c a b → All v c b d → All v c a d
  all_then b d A B x h k = ⊎_elim (λ l. B x l k) (λ l. A x h l) (le_or_lt b x)

-- ---- the n bytes from b on, where m are from r on
outside_skip : (n m c b r : ℕ) → n + b ≡ 256 → m + r ≡ 256 → b ≤ r → All false c b r → outside n c b ≡ outside m c r
outside_skip zero m c b r e d h A = let z : m ≡ 0 = omega arith in rw z
outside_skip (suc n) m c b r e d h A =
    ⊎_elim
    (λ p. let z : suc n ≡ m = omega arith in ap₂ (λ (k x : ℕ). outside k c x) z p)
    (λ l. rw (A b (omega arith) l) (outside_skip n m c (suc b) r (omega arith) d l (λ x k. A x (omega arith))))
    (eq-or-lt_of_le h)

inside_run : (n m c b r lo : ℕ) → n + b ≡ 256 → m + r ≡ 256 → b ≤ r → All true c b r → (r < 256 → bit c r ≡ false)
    → inside n c b lo ≡ run_writing lo (r - 1) ++ outside m c r
inside_run zero m c b r lo e d h A f =
    let z : m ≡ 0 = omega arith in
    let p : r - 1 ≡ 255 = omega arith in
    rw (z, p) (sym (append-nil (run_writing lo 255)))
inside_run (suc n) m c b r lo e d h A f =
    ⊎_elim
    (λ p. let z : m ≡ suc n = omega arith in rw (z, p, f (omega arith)))
    (λ l. rw (A b (omega arith) l) (inside_run n m c (suc b) r lo (omega arith) d l (λ x k. A x (omega arith)) f))
    (eq-or-lt_of_le h)

-- a run, and what is left after it
outside_run : (n m c lo r : ℕ) → n + lo ≡ 256 → m + r ≡ 256 → lo < r → All true c lo r → (r < 256 → bit c r ≡ false)
    → outside n c lo ≡ run_writing lo (r - 1) ++ outside m c r
outside_run zero m c lo r e d h A f = absurd (omega arith)
outside_run (suc n) m c lo r e d h A f = rw (A lo (omega arith) h) (inside_run n m c (suc lo) r lo (omega arith) d h (λ x k. A x (omega arith)) f)

-- the run of a byte in the class ends after it
pub first_out : (c lo r : ℕ) → bit c lo ≡ true → lo < 256 → FirstOut c lo r → lo < r
first_out c lo r t h f =
    ⊎_elim (λ e. absurd (true≢false (sym t ∙ rw e (f.hit (omega arith))))) (λ l. l) (eq-or-lt_of_le f.from)

-- ---- the runs before lo, the first byte of the next run, are written: they and what is left from lo on are the whole text
pub record Left (c : ℕ) (text : List ℕ) (at : ℕ) (entry : List ℕ) (p : ℕ) (out : List ℕ) (lo : ℕ) : Type 0 where
  done : List ℕ
  parts : text ≡ done ++ outside (256 - lo) c lo
  pub writes : Writes entry at done out p
  pub short : length done ≤ 9 * lo
  pub upto : lo ≤ 256
  pub hit : lo < 256 → bit c lo ≡ true

module _ (c at : ℕ) (entry : List ℕ) where
  pub left_all : (lo : ℕ) → FirstIn c 0 lo → Left c (outside 256 c 0) at entry at entry lo
  left_all lo f = record {
    done = [];
    parts = outside_skip 256 (256 - lo) c 0 lo refl (omega (arith, f.upto)) f.from f.skipped;
    writes = writes_none entry at;
    short = omega arith;
    upto = f.upto;
    hit = f.hit;
  }

  module _ (text : List ℕ) (lo p : ℕ) (out : List ℕ) (L : Left c text at entry p out lo) where
    pub left_next : (r next q : ℕ) (now : List ℕ) → lo < 256 → FirstOut c lo r → FirstIn c r next → Writes out p (run_writing lo (r - 1)) now q
        → Left c text at entry q now next
    left_next r next q now h e f w =
        let run = run_writing lo (r - 1) in
        let further : lo < r = first_out c lo r (L.hit h) h e in record {
          done = L.done ++ run;
          parts = L.parts ∙ ap (λ (x : List ℕ). L.done ++ x)
              (outside_run (256 - lo) (256 - r) c lo r (omega arith) (omega (arith, e.upto)) further e.skipped e.hit
              ∙ ap (λ (x : List ℕ). run ++ x)
              (outside_skip (256 - r) (256 - next) c r next (omega (arith, e.upto)) (omega (arith, f.upto)) f.from f.skipped))
              ∙ sym (append_assoc L.done run (outside (256 - next) c next));
          writes = writes_then entry at L.done run L.writes w;
          short = omega (arith, L.short, f.from, length-append L.done run, run_short lo (r - 1));
          upto = f.upto;
          hit = f.hit;
        }

    pub left_none : 256 ≤ lo → Writes entry at text out p
    left_none h =
        let z : 256 - lo ≡ 0 = omega arith in
        let e : text ≡ L.done = L.parts ∙ (rw z (append-nil L.done)) in
        writes_as entry at (sym e) L.writes
