-- A row of tokens is valid exactly if it is the tokens of a tree with good unions, some item and depth at most 8: the scan asks of each token
-- just what the tree read back from the right needs there.
use mathlib.Core.Path.{◌≡◌, refl, sym, ap, ap₂, ◌∙◌, subst}
use mathlib.Core.Bool.{Bool, true, false, not, ◌&&◌, ◌||◌, and_assoc, and-true, or_assoc, or-false, or-true}
use mathlib.Core.List.{List, [], ◌∷◌}
use mathlib.Core.Option.{Option, none, some}
use Prim.Native.Nat.{ℕ, suc, ◌+◌, ◌≤◌}
use native.Mathlib.Omega.{arith}
use lib.Dec.{T, ltb, lt→ltb, T_not}
use lib.ListN.{length}
use Rattle.model.specs.Tree.{Alts, can_omit, can_skip, end, last, letter, Mark, more, Seq, union}
use Rattle.model.specs.Edges.{alts_depth, alts_empty, depth, seq_empty, seq_end}
use Rattle.model.specs.Models.LayOut.{after_bar, after_close, begin, fitting, fitting_in, Frame, inside, next_alternative, opened, outside, Scan, step, valid}
use Rattle.model.specs.Models.Tokens.{a_bar, a_close, a_letter, alts_tokens, an_open, Begun, parse, Parsed, parsed, prepend, alternatives, several, shown, Token, tokens}
use Rattle.model.proofs.Image.Scan.{after, after_end, after-letter, after-union, after_union, alternative_at, is_end}
use Rattle.model.proofs.Image.Unions.{GoodAlts, GoodUnions, kept_empty, kept_marks, shown_fits, shown_kept}
use Rattle.model.proofs.Laws.Bool.{and_both, and_split}
use Rattle.model.proofs.Laws.Trees.{NonEmpty}

-- ---- the tokens of a good tree are valid
not_end : (s : Seq) → NonEmpty s → T (not (is_end s))
not_end end h = absurd h
not_end (letter c r s) h = tt
not_end (union m a s) h = tt

mutual
  passes : (s : Seq) (rest : List Token) (q : Scan) → GoodUnions s → length q.stack + depth s ≤ 8 → T (valid rest (after s q)) → T (valid (tokens s rest) q)
  passes end rest q g l h = subst (λ (z : Scan). T (valid rest z)) (after_end q) h
  passes (letter c r s) rest q g l h = passes s rest (step (a_letter c r) q) g l (subst (λ (z : Scan). T (valid rest z)) (sym (after-letter c r s q)) h)
  passes (union m a s) rest q g l h =
      let o = shown m (alts_empty a) in
      and_both (ltb (length q.stack) 8) (valid (alts_tokens a o (tokens s rest)) (step an_open q)) (lt→ltb (length q.stack) 8 (omega arith))
      (passes_alts a o (tokens s rest) q.position (opened q) q.stack (shown_fits m (several a) (alts_empty a) g.0) g.1 (omega arith)
      (passes s rest (after_union a o q.position (opened q) q.stack) g.2 (omega arith) (subst (λ (z : Scan). T (valid rest z)) (sym (after-union m a s q)) h)))

  passes_alts : (a : Alts) (m : Mark) (rest : List Token) (p : ℕ) (f : Frame) (st : List Frame) → T (fitting m (f.barred || several a) (f.empty_before || alts_empty a))
      → GoodAlts a → suc (length st) + alts_depth a ≤ 8 → T (valid rest (after_union a m p f st)) → T (valid (alts_tokens a m rest) (alternative_at p f st))
  passes_alts (last s) m rest p f st n g l h =
      passes s (a_close m ∷ rest) (alternative_at p f st) g.1 l
      (and_both (fits && not (is_end s)) (valid rest (after_union (last s) m p f st))
      (and_both fits (not (is_end s)) (subst (λ (b : Bool). T (fitting m b (f.empty_before || seq_empty s))) (or-false f.barred) n) (not_end s g.0)) h)
    where
      fits : Bool
      fits = fitting m f.barred (f.empty_before || seq_empty s)
  passes_alts (more s a) m rest p f st n g l h =
      passes s (a_bar ∷ alts_tokens a m rest) (alternative_at p f st) g.1 (omega arith)
      (and_both (not (is_end s)) (valid (alts_tokens a m rest) (alternative_at z next st)) (not_end s g.0)
      (passes_alts a m rest z next st (subst T (ap₂ (λ (x y : Bool). fitting m x y) (or-true f.barred) (sym (or_assoc f.empty_before (seq_empty s) (alts_empty a)))) n) g.2 (omega arith) h))
    where
      z : ℕ
      z = seq_end s (suc p)

      next : Frame
      next = next_alternative f z (seq_empty s)

-- A GOOD TREE'S TOKENS ARE VALID
pub good_valid : (s : Seq) → NonEmpty s → GoodUnions s → depth s ≤ 8 → T (valid (tokens s []) begin)
good_valid s n g l = passes s [] begin g (omega arith) (not_end s n)

-- ---- valid tokens are those of a good tree
-- the tokens to the right of what is read so far
abbrev begun_tokens : List Begun → List Token
begun_tokens [] = []
begun_tokens ((none, m, s) ∷ bs) = a_close m ∷ tokens s (begun_tokens bs)
begun_tokens ((some a, m, s) ∷ bs) = a_bar ∷ alts_tokens a m (tokens s (begun_tokens bs))

-- some alternative is there; it is good; it can be empty, or the one before it, of which e says whether it can
abbrev given : Option Alts → Bool
given none = false
given (some a) = true

abbrev GoodOthers : Option Alts → Type 0
GoodOthers none = Unit
GoodOthers (some a) = GoodAlts a

abbrev either_empty : Bool → Option Alts → Bool
either_empty e none = e
either_empty e (some a) = e || alts_empty a

-- the unions that the scan has open are those that were begun from the right, and what each close shows fits both sides together; e says whether
-- the alternative at hand can be empty
abbrev FitsFrames : Bool → List Frame → List Begun → Type 0
FitsFrames e [] [] = Unit
FitsFrames e [] (b ∷ bs) = ⊥
FitsFrames e (f ∷ st) [] = ⊥
FitsFrames e (f ∷ st) (b ∷ bs) =
    T (fitting b.1 (f.barred || given b.0) (f.empty_before || either_empty e b.0))
    × GoodOthers b.0 × GoodUnions b.2 × FitsFrames (f.empty_outside && (can_omit b.1 && seq_empty b.2)) st bs

-- what p reads of the tokens l fits the scan before them, whose sequence has no item yet if e and can be empty so far if c
record Fits (l : List Token) (e c : Bool) (st : List Frame) (p : Parsed) : Type 0 where
  begun : T e → NonEmpty p.here
  good : GoodUnions p.here
  frames : FitsFrames (c && seq_empty p.here) st p.stack
  back : tokens p.here (begun_tokens p.stack) ≡ l

outside_fits : (e : Bool) (st : List Frame) → T (outside st) → FitsFrames e st []
outside_fits e [] h = tt
outside_fits e (f ∷ st) h = absurd h

-- a union from its first alternative h, those to the right and what its close shows
alternatives_good : (h : Seq) (o : Option Alts) → NonEmpty h → GoodUnions h → GoodOthers o → GoodAlts (alternatives h o)
alternatives_good h none n g k = (n, g)
alternatives_good h (some a) n g k = (n, g, k)

alternatives_several : (h : Seq) (o : Option Alts) → given o ≡ several (alternatives h o)
alternatives_several h none = refl
alternatives_several h (some a) = refl

alternatives_empty : (h : Seq) (o : Option Alts) → either_empty (seq_empty h) o ≡ alts_empty (alternatives h o)
alternatives_empty h none = refl
alternatives_empty h (some a) = refl

alternatives_tokens : (h : Seq) (o : Option Alts) (m : Mark) (s : Seq) (bs : List Begun)
    → tokens h (begun_tokens ((o, m, s) ∷ bs)) ≡ alts_tokens (alternatives h o) m (tokens s (begun_tokens bs))
alternatives_tokens h none m s bs = refl
alternatives_tokens h (some a) m s bs = refl

fits_open : (xs : List Token) (q : Scan) (h : Seq) (bs : List Begun) → Fits xs true true (opened q ∷ q.stack) (parsed h bs)
    → Fits (an_open ∷ xs) q.no_item q.can_be_empty q.stack (prepend an_open h bs)
fits_open xs q h [] F = absurd F.frames
fits_open xs q h ((o, m, s) ∷ bs) F = record {
  begun = λ e. tt;
  good = (kept_marks m (several a) e fit, alternatives_good h o (F.begun tt) F.good F.frames.1, F.frames.2);
  frames = subst (λ (b : Bool). FitsFrames (q.can_be_empty && (b && seq_empty s)) q.stack bs) (kept_empty m (several a) e fit) F.frames.3;
  back =
      ap (λ (n : Mark). an_open ∷ alts_tokens a n (tokens s (begun_tokens bs))) (shown_kept m (several a) e fit)
      ∙ ap (λ (l : List Token). an_open ∷ l) (sym (alternatives_tokens h o m s bs) ∙ F.back);
}
  where
    a : Alts
    a = alternatives h o

    e : Bool
    e = alts_empty a

    fit : T (fitting m (several a) e)
    fit = subst T (λ i. fitting m (alternatives_several h o i) (alternatives_empty h o i)) F.frames.0

fits_bar : (xs : List Token) (z : ℕ) (e c : Bool) (st : List Frame) (h : Seq) (bs : List Begun) → T (inside st && not e)
    → Fits xs (after_bar z c st).no_item (after_bar z c st).can_be_empty (after_bar z c st).stack (parsed h bs) → Fits (a_bar ∷ xs) e c st (prepend a_bar h bs)
fits_bar xs z e c [] h bs k F = absurd k
fits_bar xs z e c (f ∷ st) h [] k F = absurd F.frames
fits_bar xs z e c (f ∷ st) h ((o, m, s) ∷ bs) k F = record {
  begun = λ x. absurd (T_not e k x);
  good = tt;
  frames = (subst T same F.frames.0, alternatives_good h o (F.begun tt) F.good F.frames.1, F.frames.2, F.frames.3);
  back = ap (λ (l : List Token). a_bar ∷ l) (sym (alternatives_tokens h o m s bs) ∙ F.back);
}
  where
    a : Alts
    a = alternatives h o

    same : fitting m true ((f.empty_before || c) || either_empty (seq_empty h) o) ≡ fitting m (f.barred || true) (f.empty_before || ((c && true) || alts_empty a))
    same =
        ap₂ (λ (x y : Bool). fitting m x y) (sym (or-true f.barred))
        (ap (λ (x : Bool). (f.empty_before || c) || x) (alternatives_empty h o) ∙ or_assoc f.empty_before c (alts_empty a)
        ∙ ap (λ (x : Bool). f.empty_before || (x || alts_empty a)) (sym (and-true c)))

fits_close : (m : Mark) (xs : List Token) (z : ℕ) (e c : Bool) (st : List Frame) (h : Seq) (bs : List Begun) → T (fitting_in m c st && not e)
    → Fits xs (after_close m z c st).no_item (after_close m z c st).can_be_empty (after_close m z c st).stack (parsed h bs)
    → Fits (a_close m ∷ xs) e c st (prepend (a_close m) h bs)
fits_close m xs z e c [] h bs k F = absurd k
fits_close m xs z e c (f ∷ st) h bs k F =
    let b = and_split (fitting m f.barred (f.empty_before || c)) (not e) k in
    record {
      begun = λ x. absurd (T_not e b.1 x);
      good = tt;
      frames = (
        subst T (ap₂ (λ (x y : Bool). fitting m x (f.empty_before || y)) (sym (or-false f.barred)) (sym (and-true c))) b.0,
        tt,
        F.good,
        subst (λ (x : Bool). FitsFrames x st bs) (and_assoc f.empty_outside (can_omit m) (seq_empty h)) F.frames,
      );
      back = ap (λ (l : List Token). a_close m ∷ l) F.back;
    }

fits : (l : List Token) (q : Scan) → T (valid l q) → Fits l q.no_item q.can_be_empty q.stack (parse l)
fits [] q v =
    let c = and_split (outside q.stack) (not q.no_item) v in
    record { begun = λ e. absurd (T_not q.no_item c.1 e); good = tt; frames = outside_fits (q.can_be_empty && true) q.stack c.0; back = refl }
fits (a_letter c r ∷ xs) q v =
    let F = fits xs (step (a_letter c r) q) v in
    record {
      begun = λ e. tt;
      good = F.good;
      frames = subst (λ (x : Bool). FitsFrames x q.stack (parse xs).stack) (and_assoc q.can_be_empty (can_skip r) (seq_empty (parse xs).here)) F.frames;
      back = ap (λ (l : List Token). a_letter c r ∷ l) F.back;
    }
fits (an_open ∷ xs) q v =
    let c = and_split (ltb (length q.stack) 8) (valid xs (step an_open q)) v in
    fits_open xs q (parse xs).here (parse xs).stack (fits xs (step an_open q) c.1)
fits (a_bar ∷ xs) q v =
    let c = and_split (inside q.stack && not q.no_item) (valid xs (step a_bar q)) v in
    fits_bar xs q.position q.no_item q.can_be_empty q.stack (parse xs).here (parse xs).stack c.0 (fits xs (step a_bar q) c.1)
fits (a_close m ∷ xs) q v =
    let c = and_split (fitting_in m q.can_be_empty q.stack && not q.no_item) (valid xs (step (a_close m) q)) v in
    fits_close m xs q.position q.no_item q.can_be_empty q.stack (parse xs).here (parse xs).stack c.0 (fits xs (step (a_close m) q) c.1)

-- A VALID ROW IS THE TOKENS OF A GOOD TREE
pub record TreeOf (l : List Token) : Type 0 where
  pub tree : Seq
  pub begun : NonEmpty tree
  pub good : GoodUnions tree
  pub of_tokens : tokens tree [] ≡ l

pub valid_tree : (l : List Token) → T (valid l begin) → TreeOf l
valid_tree l v = go (parse l).here (parse l).stack (fits l begin v)
  where
    go : (h : Seq) (bs : List Begun) → Fits l true true [] (parsed h bs) → TreeOf l
    go h [] F = record { tree = h; begun = F.begun tt; good = F.good; of_tokens = F.back }
    go h (b ∷ bs) F = absurd F.frames
