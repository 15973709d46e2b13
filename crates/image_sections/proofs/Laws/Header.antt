-- WORDS WITH A HEADER: what its tests say. Each refusal is a test that fails, and where none fails the numbers are the words' own.
use mathlib.Core.Path.{◌≡◌, sym, ap, ◌∙◌, subst}
use mathlib.Core.Logic.{◌↔◌}
use mathlib.Core.Bool.{Bool, true, false, ◌&&◌}
use mathlib.Core.List.{List}
use Prim.Native.Nat.{ℕ, suc, ◌-◌, ◌*◌, ◌≤◌}
use native.Mathlib.Omega.{arith}
use lib.Dec.{T, eqb, eqb_refl, eqb→eq, leb, leb→le, le→leb}
use lib.ListN.{get_or, length}
use Rattle.model.specs.Image.{width}
use Rattle.model.specs.Models.Sections.{back_count, Counted, depth_word, gather_count, image_length, letters_count, propagate_count, repeats_count, scatter_count, state_word, width_word}
use Rattle.model.proofs.Laws.Bool.{and_both, and_split}
use Rattle.image_sections.specs.Header.{counts_fit, Headed, header_fits, header_if, holds, shape_fits}
use Rattle.image_sections.specs.Sections.{Placed, sections_for, sections_in, sections_of}
use Rattle.std.specs.Prelude.{Option, Some}
use Rattle.image_sections.specs.declared.Sections.{Sections}

equal : (m n : ℕ) → m ≡ n → T (eqb m n)
equal m n e = subst (λ (k : ℕ). T (eqb m k)) e (eqb_refl m)

-- ---- the counts
module _ (ws : List ℕ) where
  -- a count stands one word before the first mask
  one_before : (n : ℕ) → suc n - 1 ≡ n
  one_before n = omega arith

  abbrev tests : (W d : ℕ) → Bool
  tests W d =
      holds ws letters_count (256 * W)
      && (holds ws (repeats_count W) (256 * W)
      && (holds ws (scatter_count W) (3 * W * d)
      && (holds ws (gather_count W d) (3 * W * d) && (holds ws (propagate_count W d) (3 * W * suc d) && holds ws (back_count W d) (2 * W * d)))))

  tests_are : (m d : ℕ) → counts_fit ws (sections_of m d) ≡ tests (width m) d
  tests_are m d i =
      let W = width m in
      holds ws letters_count (256 * W)
      && (holds ws (one_before (repeats_count W) i) (256 * W)
      && (holds ws (one_before (scatter_count W) i) (3 * W * d)
      && (holds ws (one_before (gather_count W d) i) (3 * W * d)
      && (holds ws (one_before (propagate_count W d) i) (3 * W * suc d) && holds ws (one_before (back_count W d) i) (2 * W * d)))))

  counts_of : (m d : ℕ) → get_or ws 0 0 ≡ 3 → length ws ≡ image_length (width m) d → T (counts_fit ws (sections_of m d)) → Counted ws (width m) d
  counts_of m d three long t =
      let W = width m in
      let a = and_split (holds ws letters_count (256 * W)) _ (subst T (tests_are m d) t) in
      let b = and_split (holds ws (repeats_count W) (256 * W)) _ a.1 in
      let c = and_split (holds ws (scatter_count W) (3 * W * d)) _ b.1 in
      let e = and_split (holds ws (gather_count W d) (3 * W * d)) _ c.1 in
      let f = and_split (holds ws (propagate_count W d) (3 * W * suc d)) _ e.1 in
      record {
        long = long;
        shape_count = three;
        letters-count = eqb→eq (get_or ws letters_count 0) (256 * W) a.0;
        repeats-count = eqb→eq (get_or ws (repeats_count W) 0) (256 * W) b.0;
        scatter-count = eqb→eq (get_or ws (scatter_count W) 0) (3 * W * d) c.0;
        gather-count = eqb→eq (get_or ws (gather_count W d) 0) (3 * W * d) e.0;
        propagate-count = eqb→eq (get_or ws (propagate_count W d) 0) (3 * W * suc d) f.0;
        back-count = eqb→eq (get_or ws (back_count W d) 0) (2 * W * d) f.1;
      }

  counts-fit : (m d : ℕ) → Counted ws (width m) d → T (counts_fit ws (sections_of m d))
  counts-fit m d C =
      let W = width m in
      subst T (sym (tests_are m d))
      (and_both (holds ws letters_count (256 * W)) _ (equal _ _ C.letters-count)
      (and_both (holds ws (repeats_count W) (256 * W)) _ (equal _ _ C.repeats-count)
      (and_both (holds ws (scatter_count W) (3 * W * d)) _ (equal _ _ C.scatter-count)
      (and_both (holds ws (gather_count W d) (3 * W * d)) _ (equal _ _ C.gather-count)
      (and_both (holds ws (propagate_count W d) (3 * W * suc d)) _ (equal _ _ C.propagate-count) (equal _ _ C.back-count))))))

-- ---- the shape, and the whole header
module _ (ws : List ℕ) where
  abbrev m : ℕ
  m = state_word ws

  abbrev W : ℕ
  W = width_word ws

  abbrev d : ℕ
  d = depth_word ws

  pub record Shape : Type 0 where
    pub four : 4 ≤ length ws
    pub three : get_or ws 0 0 ≡ 3
    pub some_states : 2 ≤ m
    pub few_states : m ≤ 512
    pub wide : W ≡ width m
    pub shallow : d ≤ 8

  pub shape_of : T (shape_fits ws) → Shape
  shape_of t =
      let a = and_split (leb 4 (length ws)) _ t in
      let b = and_split (holds ws 0 3) _ a.1 in
      let c = and_split (leb 2 m) _ b.1 in
      let e = and_split (leb m 512) _ c.1 in
      let f = and_split (eqb W (width m)) (leb d 8) e.1 in
      record {
        four = leb→le 4 (length ws) a.0;
        three = eqb→eq (get_or ws 0 0) 3 b.0;
        some_states = leb→le 2 m c.0;
        few_states = leb→le m 512 e.0;
        wide = eqb→eq W (width m) f.0;
        shallow = leb→le d 8 f.1;
      }

  pub shape-fits : Shape → T (shape_fits ws)
  shape-fits S =
      and_both (leb 4 (length ws)) _ (le→leb 4 (length ws) S.four)
      (and_both (holds ws 0 3) _ (equal (get_or ws 0 0) 3 S.three)
      (and_both (leb 2 m) _ (le→leb 2 m S.some_states)
      (and_both (leb m 512) _ (le→leb m 512 S.few_states)
      (and_both (eqb W (width m)) _ (equal W (width m) S.wide) (le→leb d 8 S.shallow)))))

  pub record Fits : Type 0 where
    pub shape : Shape
    pub long : length ws ≡ (sections_in ws).length
    pub counts : T (counts_fit ws (sections_in ws))

  fits_of : T (header_fits ws) → Fits
  fits_of t =
      let a = and_split (shape_fits ws) _ t in
      let b = and_split (eqb (length ws) (sections_in ws).length) _ a.1 in
      record { shape = shape_of a.0; long = eqb→eq (length ws) (sections_in ws).length b.0; counts = b.1 }

  header-fits : Fits → T (header_fits ws)
  header-fits F =
      and_both (shape_fits ws) _ (shape-fits F.shape)
      (and_both (eqb (length ws) (sections_in ws).length) _ (equal (length ws) (sections_in ws).length F.long) F.counts)

-- what it is to have a header
pub header_is : (ws : List ℕ) → T (header_fits ws) ↔ Headed ws
header_is ws = (there, back)
  where
    there : T (header_fits ws) → Headed ws
    there h =
        let F = fits_of ws h in
        let S = F.shape in
        record {
          some = S.some_states;
          few = S.few_states;
          width-word = S.wide;
          shallow = S.shallow;
          counted = subst (λ (n : ℕ). Counted ws n (depth_word ws)) (sym S.wide)
              (counts_of ws (state_word ws) (depth_word ws) S.three F.long F.counts);
        }

    back : Headed ws → T (header_fits ws)
    back H =
        let C = subst (λ (n : ℕ). Counted ws n (depth_word ws)) H.width-word H.counted in
        header-fits ws (record {
          shape = record {
            four = omega (arith, C.long);
            three = C.shape_count;
            some_states = H.some;
            few_states = H.few;
            wide = H.width-word;
            shallow = H.shallow;
          };
          long = C.long;
          counts = counts-fit ws (state_word ws) (depth_word ws) C;
        })

-- the places by the words' own width
pub own_words : {ws : List ℕ} → Headed ws → sections_in ws ≡ sections_for (state_word ws) (width_word ws) (depth_word ws)
own_words {ws} H = ap (λ (w : ℕ). sections_for (state_word ws) w (depth_word ws)) (sym H.width-word)

-- such words have their own places
pub headed_placed : {ws : List ℕ} {p : Sections} → Headed ws → p ≡ sections_in ws → Placed ws p
headed_placed {ws} H e = record {
  own = e;
  some = H.some;
  few = H.few;
  shallow = H.shallow;
  long = H.counted.long ∙ ap (λ (w : ℕ). image_length w (depth_word ws)) H.width-word ∙ ap (λ (q : Sections). q.length) (sym e);
}

-- ---- the answer, by a test
-- an answer that is a header passed the test, and says what the words say
pub record Told (b : Bool) (ws : List ℕ) (p : Sections) : Type 0 where
  pub passed : T b
  pub own : p ≡ sections_in ws

pub told : (b : Bool) (ws : List ℕ) {answer : Option Sections} {p : Sections} → answer ≡ header_if b ws → answer ≡ Some p → Told b ws p
told true ws e f = record { passed = tt; own = cc }
told false ws e f = cc

-- words whose shape passed have the places told, once their length is right
pub placed_shape : {ws : List ℕ} {p : Sections} → Told (shape_fits ws) ws p → length ws ≡ p.length → Placed ws p
placed_shape {ws} D long =
    let S = shape_of ws D.passed in
    record { own = D.own; some = S.some_states; few = S.few_states; shallow = S.shallow; long = long }

-- and so have words with a header
pub placed : {ws : List ℕ} {p : Sections} → Told (header_fits ws) ws p → Placed ws p
placed {ws} D = headed_placed ((header_is ws).0 D.passed) D.own
