-- THE TOKENS OF AN IMAGE, WRITTEN ONE AFTER ANOTHER WITH THEIR UNIONS' OWN MARKS, ARE THE TREE'S PLAIN WRITING: a token of the tape tells all but the
-- class, and the class is read off the letters' masks, from which the tree's own token has it.
use mathlib.Core.Path.{◌≡◌, refl, sym, ap, ap₂, ◌∙◌, subst}
use mathlib.Core.Bool.{Bool, true, false}
use mathlib.Core.List.{List, [], ◌∷◌, ◌++◌}
use Prim.Native.Nat.{ℕ, zero, suc, ◌+◌, ◌≤◌, ◌<◌}
use native.Mathlib.Nat.{le_of_suc-le-suc, not-suc-le-zero}
use native.Mathlib.Omega.{arith}
use lib.ListN.{get_or, length, take}
use lib.Seq.{get_or-take, length-take-le}
use Rattle.model.specs.Answers.{ImageOf}
use Rattle.model.specs.Image.{join}
use Rattle.model.specs.Models.Apart.{any_below, tape, token_at, token_of as tokenShown}
use Rattle.model.specs.Models.Sections.{bit_of, letters_in, state_word, width_word}
use Rattle.model.specs.Models.LayOut.{begin, empty_in, own, owns, Scan, step}
use Rattle.model.specs.Models.Tokens.{a_bar, a_close, a_letter, an_open, Token, tokens}
use Rattle.model.specs.Tree.{Tree}
use Rattle.model.specs.Writing.{writing}
use Rattle.model.proofs.Image.Compare.{get_d_between}
use Rattle.model.proofs.Image.Decided.{tape-of}
use Rattle.model.proofs.Image.Tokens.{length_tokens}
use Rattle.model.proofs.Image.TokenWriting.{length_owns, tokens-writing, tokens_writing, token_writing}
use Rattle.model.proofs.Image.WellFormed.{well_fine, well_formed}
use Rattle.model.proofs.Reading.WellFormed.{rule_well, WellFormed}
use Rattle.image_classes.specs.Classes.{class_to}
use Rattle.tokens.specs.Tokens.{bare, token_of}
use Rattle.tokens_masks.specs.Tapes.{bares, read_kinds, TapeOf}
use Rattle.tokens.specs.Kinds.{read_kind}
use Rattle.tokens.specs.declared.token.Token as read
use Rattle.tokens.specs.declared.token.Token.TheVariants.{Bar, Close, Letter, Open}
use Rattle.tokens_masks.specs.declared.Tape.{Tape}
use Rattle.tokens_masks.proofs.Bare.{bares_own}
use Rattle.writing.specs.Work.{OwnMarks, range_text, token_text}

-- ---- a token of the tape, with the class c
abbrev classed : ℕ → Token → Token
classed c (a_letter b r) = a_letter c r
classed c an_open = an_open
classed c a_bar = a_bar
classed c (a_close m) = a_close m

by_token : (c : ℕ) (y : read.Token) → token_text c y ≡ token_writing (classed c (token_of y))
by_token c (Letter r) = refl
by_token c Open = refl
by_token c Bar = refl
by_token c (Close m) = refl

-- a token that the masks show has the class that they show, also with its union's own mark
by_masks : (is_letter : Bool) (c : ℕ) (skips loops closes opens returns e : Bool)
    → classed c (bare (own (tokenShown is_letter c skips loops closes opens returns) e)) ≡ own (tokenShown is_letter c skips loops closes opens returns) e
by_masks true c s l k o b e = refl
by_masks false c s l true o b e = refl
by_masks false c s l false true b e = refl
by_masks false c s l false false b e = refl

-- ---- rows of them
get_d_kinds : (ks : List ℕ) (i : ℕ) → i < length ks → get_or (read_kinds ks) i a_bar ≡ token_of (read_kind (get_or ks i 0))
get_d_kinds [] i h = absurd (not-suc-le-zero h)
get_d_kinds (k ∷ ks) zero h = refl
get_d_kinds (k ∷ ks) (suc i) h = get_d_kinds ks i (le_of_suc-le-suc h)

get_d_bares : (l : List Token) (i : ℕ) → get_or (bares l) i a_bar ≡ bare (get_or l i a_bar)
get_d_bares [] i = refl
get_d_bares (y ∷ ys) zero = refl
get_d_bares (y ∷ ys) (suc i) = get_d_bares ys i

-- the token at a place, with its union's own mark
get_d_owns : (l : List Token) (q : Scan) (i : ℕ) → (e : Bool) × (get_or (owns l q) i a_bar ≡ own (get_or l i a_bar) e)
get_d_owns [] q i = (true, refl)
get_d_owns (y ∷ ys) q zero = (empty_in q.can_be_empty q.stack, refl)
get_d_owns (y ∷ ys) q (suc i) = get_d_owns ys (step y q) i

written-by : (l : List Token) (a : ℕ) (f : ℕ → List ℕ) → ((i : ℕ) → i < length l → f (a + i) ≡ token_writing (get_or l i a_bar))
    → join (length l) a f ≡ tokens_writing l
written-by [] a f h = refl
written-by (y ∷ ys) a f h =
    ap₂ ◌++◌ (let e : a ≡ a + 0 = omega arith in ap f e ∙ h 0 (omega arith))
    (written-by ys (suc a) f (λ i k. (let e : suc a + i ≡ a + suc i = omega arith in ap f e) ∙ h (suc i) (omega arith)))

-- ---- THE WHOLE: t is the tree's tape, and u has the unions' own marks
module _ (ws : List ℕ) (s : Tree) (I : ImageOf ws s) (t u : Tape) (A : TapeOf s t) (M : OwnMarks t u) (room : length u.kinds ≡ 512) where
  abbrev l : List Token
  l = tokens s []

  abbrev o : List Token
  o = owns l begin

  abbrev W : ℕ
  W = width_word ws

  well : WellFormed s
  well = rule_well I.is_rule

  taken : tape ws ≡ l
  taken = ap tape I.laid ∙ tape-of s (well_fine s well)

  size : state_word ws ≡ suc (length l)
  size = ap state_word I.laid ∙ ap suc (sym (length_tokens s))

  long : u.length ≡ length o
  long = M.long ∙ A.long ∙ sym (length_owns l begin)

  few : length o ≤ 511
  few = omega (arith, length_owns l begin, length_tokens s, I.few)

  kind-of : (i : ℕ) → i < length o → token_of (read_kind (get_or u.kinds i 0)) ≡ bare (get_or o i a_bar)
  kind-of i h =
      let k : i < u.length = omega (arith, long) in
      ap (λ (n : ℕ). token_of (read_kind n)) (sym (get_or-take u.length u.kinds i 0 k))
      ∙ sym (get_d_kinds (take u.length u.kinds) i (omega (arith, length-take-le u.length u.kinds (omega (arith, long, few, room)))))
      ∙ ap (λ (y : List Token). get_or y i a_bar) (M.tokens_are ∙ ap (λ (y : List Token). owns y begin) A.tokens_are ∙ bares_own l begin)
      ∙ get_d_bares o i

  token-of : (i : ℕ) → i < length o → get_or l i a_bar ≡ token_at ws i
  token-of i h =
      ap (λ (y : List Token). get_or y i a_bar) (sym taken) ∙ get_d_between (state_word ws) i (token_at ws) (omega (arith, size, length_owns l begin))

  each_token : (i : ℕ) → i < length o → token_text (class_to ws W (suc i)) (read_kind (get_or u.kinds i 0)) ≡ token_writing (get_or o i a_bar)
  each_token i h =
      let c = class_to ws W (suc i) in
      let n = get_d_owns l begin i in
      let e = n.1 ∙ ap (λ (y : Token). own y n.0) (token-of i h) in
      by_token c (read_kind (get_or u.kinds i 0))
      ∙ ap token_writing
      (ap (classed c) (kind-of i h ∙ ap bare e) ∙ by_masks (any_below 256 (λ b. bit_of W (letters_in ws) b (suc i))) c _ _ _ _ _ n.0 ∙ sym e)

  pub all_written : range_text ws W u.kinds u.length 0 ≡ writing s
  all_written =
      ap (λ (n : ℕ). range_text ws W u.kinds n 0) long
      ∙ written-by o 0 (λ i. token_text (class_to ws W (suc i)) (read_kind (get_or u.kinds i 0)))
      (λ i h. let e : 0 + i ≡ i = omega arith in subst (λ (j : ℕ). token_text (class_to ws W (suc j)) (read_kind (get_or u.kinds j 0)) ≡ token_writing (get_or o i a_bar)) (sym e) (each_token i h))
      ∙ tokens-writing s ((well_formed s).0 well).1
