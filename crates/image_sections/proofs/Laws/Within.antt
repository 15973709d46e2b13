-- EVERY SECTION LIES WITHIN THE WORDS, one after another: by the places alone, so that whoever reads at a place needs no number.
use mathlib.Core.Path.{◌≡◌, refl, sym, ap, ◌∙◌, subst}
use mathlib.Core.List.{List, [], ◌∷◌}
use Prim.Native.Nat.{ℕ, suc, ◌+◌, ◌*◌, ◌≤◌}
use native.Mathlib.Nat.{mul-add, mul_assoc, mul_comm, mul-le-mul, mul_left_comm, mul-suc}
use native.Mathlib.Omega.{arith}
use lib.ListN.{length}
use Rattle.model.specs.Image.{width}
use Rattle.model.specs.Models.Sections.{back_at, depth_word, gather_at, image_length, propagate_at, repeat_place, scatter_at, state_word}
use Rattle.model.specs.Models.Words.{Fit}
use Rattle.image_sections.specs.Sections.{AreWords, Placed, sections_in, sections_of, Single, width_of, Within}
use Rattle.image_sections.specs.declared.Sections.{Sections}

within_of : (m d : ℕ) → m ≤ 512 → d ≤ 8 → Within (sections_of m d) (sections_of m d).length
within_of m d h k = record {
  narrow = narrow;
  deep = k;
  area = area;
  room = omega arith;
  short = omega (arith, area, narrow, three, two, next, mul_comm W 256);
  letters = omega (arith, mul_comm W 256);
  repeats = omega (arith, mul_comm W 256);
  scatters = omega (arith, three);
  gathers = omega (arith, three);
  propagates = omega (arith, three, next, mul_left_comm W 3 (d + 1), mul-add W d 1);
  backs = omega (arith, two, mul_left_comm W 2 d);
  counted = omega arith;
}
  where
    W : ℕ
    W = width m

    narrow : W ≤ 8
    narrow = omega arith

    area : W * d ≤ 64
    area = mul-le-mul narrow k

    three : (3 * W * d ≡ 3 * (W * d)) × (W * (3 * d) ≡ 3 * (W * d))
    three = (mul_assoc 3 W d, mul_left_comm W 3 d)

    two : 2 * W * d ≡ 2 * (W * d)
    two = mul_assoc 2 W d

    next : 3 * W * suc d ≡ 3 * W * d + 3 * W
    next = mul-suc (3 * W) d

pub within_limits : {m d : ℕ} {p : Sections} → p ≡ sections_of m d → m ≤ 512 → d ≤ 8 → Within p p.length
within_limits {m} {d} e h k = subst (λ (q : Sections). Within q q.length) (sym e) (within_of m d h k)

pub within : {ws : List ℕ} {p : Sections} → Placed ws p → Within p (length ws)
within {ws} {p} P = subst (Within p) (sym P.long) (within_limits P.own P.few P.shallow)

-- the places are the words' own
pub own_placed : {ws : List ℕ} {p : Sections} → Placed ws p → Placed ws (sections_in ws)
own_placed {ws} P = subst (Placed ws) P.own P

pub own_width : {ws : List ℕ} {p : Sections} → Placed ws p → p.width ≡ width_of ws
own_width P = ap (λ (q : Sections). q.width) P.own

pub own_depth : {ws : List ℕ} {p : Sections} → Placed ws p → p.depth ≡ depth_word ws
own_depth P = ap (λ (q : Sections). q.depth) P.own

pub own_states : {ws : List ℕ} {p : Sections} → Placed ws p → p.states ≡ state_word ws
own_states P = ap (λ (q : Sections). q.states) P.own

-- each section by the width and the depth
module _ {ws : List ℕ} {p : Sections} (P : Placed ws p) where
  pub scatter_is : p.scatter ≡ scatter_at p.width
  scatter_is = subst (λ (q : Sections). q.scatter ≡ scatter_at q.width) (sym P.own) refl

  pub gather_is : p.gather ≡ gather_at p.width p.depth
  gather_is = subst (λ (q : Sections). q.gather ≡ gather_at q.width q.depth) (sym P.own) refl

  pub propagate_is : p.propagate ≡ propagate_at p.width p.depth
  propagate_is = subst (λ (q : Sections). q.propagate ≡ propagate_at q.width q.depth) (sym P.own) refl

  pub back_is : p.back ≡ back_at p.width p.depth
  back_is = subst (λ (q : Sections). q.back ≡ back_at q.width q.depth) (sym P.own) refl

  -- a byte's masks
  pub bytes_fit : repeat_place p.width 256 ≤ length ws
  bytes_fit = let I = within P in omega (arith, I.scatters, I.gathers, I.propagates, I.backs, scatter_is)

-- words of 64 bits each, as the model says it
pub words_fit : (ws : List ℕ) → AreWords ws → Fit ws
words_fit [] h = tt
words_fit (w ∷ ws) h = (h 0, words_fit ws (λ i. h (suc i)))

-- where a mask has one word
pub single : {ws : List ℕ} {p : Sections} → Placed ws p → p.states ≤ 64 → Single p (length ws)
single {ws} {p} P few = subst (λ (n : ℕ). Single p n) (sym P.long) (subst (λ (q : Sections). Single q q.length) (sym P.own) (record {
  few = small;
  deep = P.shallow;
  scatter_is = ap scatter_at one;
  gather_is = ap (λ (w : ℕ). gather_at w d) one;
  propagate_is = ap (λ (w : ℕ). propagate_at w d) one;
  back_is = ap (λ (w : ℕ). back_at w d) one;
  long = ap (λ (w : ℕ). image_length w d) one;
}))
  where
    d : ℕ
    d = depth_word ws

    small : state_word ws ≤ 64
    small = subst (λ (q : Sections). q.states ≤ 64) P.own few

    one : width (state_word ws) ≡ 1
    one = omega (arith, small, P.some)

module _ {p : Sections} {n : ℕ} (I : Within p n) where
  -- each section is whole
  pub backs_in : p.back + p.width * (2 * p.depth) ≤ n
  backs_in = omega (arith, I.backs)

  pub propagates_in : p.propagate + p.width * (3 * (p.depth + 1)) ≤ n
  propagates_in = omega (arith, I.propagates, backs_in)

  pub gathers_in : p.gather + p.width * (3 * p.depth) ≤ n
  gathers_in = omega (arith, I.gathers, propagates_in)

  pub scatters_in : p.scatter + p.width * (3 * p.depth) ≤ n
  scatters_in = omega (arith, I.scatters, gathers_in)

  -- the same by masks of some words to each depth
  spread : (k d : ℕ) → k * p.width * d ≡ p.width * (k * d)
  spread k d = ap (λ (j : ℕ). j * d) (mul_comm k p.width) ∙ mul_assoc p.width k d

  pub propagate_fits : p.propagate + 3 * p.width * (p.depth + 1) ≤ n
  propagate_fits = omega (arith, propagates_in, spread 3 (p.depth + 1))

  -- and one mask past them
  pub past_gather : p.gather + 2 * p.width + 3 * p.width * p.depth ≤ n
  past_gather = omega (arith, I.gathers, propagate_fits, spread 3 p.depth, mul-add (3 * p.width) p.depth 1)
