-- What the masks hold at the state after a token shows the token: each test of a tree's arcs there is a test of the token, since an arc that
-- passes says so, and a token that passes owns such an arc.
use mathlib.Core.Path.{◌≡◌, sym, ap, ◌∙◌, subst}
use mathlib.Core.Bool.{Bool, true, false, ◌&&◌, cond}
use mathlib.Core.List.{List, []}
use Prim.Native.Nat.{ℕ, zero, suc, ◌<◌}
use native.Mathlib.Nat.{le_of_suc-le-suc}
use native.Mathlib.Omega.{arith}
use lib.Dec.{T, eqb, eqb→eq, eqb_refl}
use Rattle.model.specs.Lists.{any}
use Rattle.model.specs.Bits.{bit}
use Rattle.model.specs.Tree.{can_loop, can_omit, can_return, can_skip, Seq}
use Rattle.model.specs.Edges.{seq_end}
use Rattle.model.specs.Models.LayOut.{token_letters, token_loops}
use Rattle.model.specs.Models.Tokens.{a_bar, a_close, a_letter, an_open, class_of, loop_class_of, Token, tokens}
use Rattle.model.proofs.Ends.Run.{letter_set, loops_byte, loop_set, takes_byte}
use Rattle.model.proofs.Image.Between.{over_letter, over_union, Owns, owns, Says, says, Skips, token}
use Rattle.model.proofs.Language.Arcs.{Arc, arc, ArcKind, arcs, back_arc, fork_arc, letter_arc, loop_arc, propagate_arc}
use Rattle.model.proofs.Laws.Bits.{no_bit}
use Rattle.model.proofs.Laws.Bool.{and_both, and_split, is_not, same_truth}
use Rattle.model.proofs.Laws.Lists.{any_in, any_out, In}

-- ---- the tests
abbrev pub is_fork : ArcKind → Bool
is_fork (letter_arc c) = false
is_fork (loop_arc c) = false
is_fork propagate_arc = false
is_fork (fork_arc xs) = true
is_fork back_arc = false

abbrev pub is_propagate : ArcKind → Bool
is_propagate (letter_arc c) = false
is_propagate (loop_arc c) = false
is_propagate propagate_arc = true
is_propagate (fork_arc xs) = false
is_propagate back_arc = false

abbrev pub is_return : ArcKind → Bool
is_return (letter_arc c) = false
is_return (loop_arc c) = false
is_return propagate_arc = false
is_return (fork_arc xs) = false
is_return back_arc = true

-- a union starts in i; one ends in i + 1; a propagate edge enters i + 1; a back edge starts in i
abbrev pub opens : List Arc → ℕ → Bool
opens es i = any (λ e. is_fork e.kind && eqb i e.from) es

abbrev pub closes : List Arc → ℕ → Bool
closes es i = any (λ e. is_fork e.kind && eqb (suc i) e.to) es

abbrev pub skips : List Arc → ℕ → Bool
skips es i = any (λ e. is_propagate e.kind && eqb (suc i) e.to) es

abbrev pub comes_back : List Arc → ℕ → Bool
comes_back es i = any (λ e. is_return e.kind && eqb i e.from) es

abbrev pub is_open : Token → Bool
is_open (a_letter c r) = false
is_open an_open = true
is_open a_bar = false
is_open (a_close m) = false

abbrev pub is_close : Token → Bool
is_close (a_letter c r) = false
is_close an_open = false
is_close a_bar = false
is_close (a_close m) = true

abbrev pub token_skips : Token → Bool
token_skips (a_letter c r) = can_skip r
token_skips an_open = false
token_skips a_bar = false
token_skips (a_close m) = can_omit m

abbrev pub token_returns : Token → Bool
token_returns (a_letter c r) = false
token_returns an_open = false
token_returns a_bar = false
token_returns (a_close m) = can_return m

-- ---- what each shows
loop_bit : (b : Bool) (c i : ℕ) → T b → T (bit c i) → T (bit (cond b c 0) i)
loop_bit true c i h k = k
loop_bit false c i h k = absurd h

loop_bit_split : (b : Bool) (c i : ℕ) → T (bit (cond b c 0) i) → T b × T (bit c i)
loop_bit_split true c i h = (tt, h)
loop_bit_split false c i h = absurd (no_bit i h)

module _ (s : Seq) (i : ℕ) (l : i < seq_end s 0) where
  abbrev es : List Arc
  es = arcs s 0 0

  -- a test p of the arcs is the test q of the token after state i
  shown : (p : ArcKind → ℕ → ℕ → Bool) (q : Token → Bool) → ((w : ArcKind) (a z : ℕ) → Says (token s) w a z → T (p w a z) → T (q (token s i)))
      → ((x : Token) → Owns (In es) x i → T (q x) → (e : Arc) × In es e × T (p e.kind e.from e.to))
      → any (λ e. p e.kind e.from e.to) es ≡ q (token s i)
  shown p q out own = same_truth (any (λ e. p e.kind e.from e.to) es) (q (token s i)) there back
    where
      there : T (any (λ e. p e.kind e.from e.to) es) → T (q (token s i))
      there h = let r = any_out (λ e. p e.kind e.from e.to) es h in out r.0.kind r.0.from r.0.to (says s r.0 r.1) r.2

      back : T (q (token s i)) → T (any (λ e. p e.kind e.from e.to) es)
      back h = let r = own (token s i) (owns s i l) h in any_in (λ e. p e.kind e.from e.to) es r.0 r.1 r.2

  -- a token that is known passes the test
  known : (q : Token → Bool) (j : ℕ) (x : Token) → i ≡ j → token s j ≡ x → T (q x) → T (q (token s i))
  known q j x e k h = subst (λ (y : Token). T (q y)) (sym (ap (token s) e ∙ k)) h

  pub letters_show : (b : ℕ) → letter_set es b (suc i) ≡ bit (class_of (token s i)) b
  letters_show b = shown (λ w a z. takes_byte b w && eqb (suc i) z) (λ x. bit (class_of x) b) out own
    where
      out : (w : ArcKind) (a z : ℕ) → Says (token s) w a z → T (takes_byte b w && eqb (suc i) z) → T (bit (class_of (token s i)) b)
      out (letter_arc c) a z m h =
          let k = and_split (bit c b) (eqb (suc i) z) h in
          known (λ x. bit (class_of x) b) a (a_letter c m.1) (omega (arith, m.0, eqb→eq (suc i) z k.1)) m.2 k.0
      out (loop_arc c) a z m h = absurd h
      out propagate_arc a z m h = absurd h
      out (fork_arc xs) a z m h = absurd h
      out back_arc a z m h = absurd h

      own : (x : Token) → Owns (In es) x i → T (bit (class_of x) b) → (e : Arc) × In es e × T (takes_byte b e.kind && eqb (suc i) e.to)
      own (a_letter c r) o h = (arc (letter_arc c) o.0 i (suc i), o.1, and_both (bit c b) (eqb (suc i) (suc i)) h (eqb_refl (suc i)))
      own an_open o h = absurd (no_bit b h)
      own a_bar o h = absurd (no_bit b h)
      own (a_close m) o h = absurd (no_bit b h)

  pub loops_show : (b : ℕ) → loop_set es b (suc i) ≡ bit (loop_class_of (token s i)) b
  loops_show b = shown (λ w a z. loops_byte b w && eqb (suc i) z) (λ x. bit (loop_class_of x) b) out own
    where
      out : (w : ArcKind) (a z : ℕ) → Says (token s) w a z → T (loops_byte b w && eqb (suc i) z) → T (bit (loop_class_of (token s i)) b)
      out (letter_arc c) a z m h = absurd h
      out (loop_arc c) a z m h =
          let k = and_split (bit c b) (eqb (suc i) z) h in
          known (λ x. bit (loop_class_of x) b) m.1 (a_letter c m.2) (omega (arith, m.0, m.3, eqb→eq (suc i) z k.1)) m.4
          (loop_bit (can_loop m.2) c b m.5 k.0)
      out propagate_arc a z m h = absurd h
      out (fork_arc xs) a z m h = absurd h
      out back_arc a z m h = absurd h

      own : (x : Token) → Owns (In es) x i → T (bit (loop_class_of x) b) → (e : Arc) × In es e × T (loops_byte b e.kind && eqb (suc i) e.to)
      own (a_letter c r) o h =
          let k = loop_bit_split (can_loop r) c b h in
          (arc (loop_arc c) o.0 (suc i) (suc i), o.2 k.0, and_both (bit c b) (eqb (suc i) (suc i)) k.1 (eqb_refl (suc i)))
      own an_open o h = absurd (no_bit b h)
      own a_bar o h = absurd (no_bit b h)
      own (a_close m) o h = absurd (no_bit b h)

  pub opens_show : opens es i ≡ is_open (token s i)
  opens_show = shown (λ w a z. is_fork w && eqb i a) is_open out own
    where
      out : (w : ArcKind) (a z : ℕ) → Says (token s) w a z → T (is_fork w && eqb i a) → T (is_open (token s i))
      out (letter_arc c) a z m h = absurd h
      out (loop_arc c) a z m h = absurd h
      out propagate_arc a z m h = absurd h
      out (fork_arc xs) a z m h = known is_open a an_open (eqb→eq i a h) m.0 tt
      out back_arc a z m h = absurd h

      own : (x : Token) → Owns (In es) x i → T (is_open x) → (e : Arc) × In es e × T (is_fork e.kind && eqb i e.from)
      own (a_letter c r) o h = absurd h
      own an_open o h = (arc (fork_arc o.0) o.1 i o.2, o.3, eqb_refl i)
      own a_bar o h = absurd h
      own (a_close m) o h = absurd h

  pub closes_show : closes es i ≡ is_close (token s i)
  closes_show = shown (λ w a z. is_fork w && eqb (suc i) z) is_close out own
    where
      out : (w : ArcKind) (a z : ℕ) → Says (token s) w a z → T (is_fork w && eqb (suc i) z) → T (is_close (token s i))
      out (letter_arc c) a z m h = absurd h
      out (loop_arc c) a z m h = absurd h
      out propagate_arc a z m h = absurd h
      out (fork_arc xs) a z m h = known is_close m.1 (a_close m.2) (omega (arith, m.3, eqb→eq (suc i) z h)) m.4 tt
      out back_arc a z m h = absurd h

      own : (x : Token) → Owns (In es) x i → T (is_close x) → (e : Arc) × In es e × T (is_fork e.kind && eqb (suc i) e.to)
      own (a_letter c r) o h = absurd h
      own an_open o h = absurd h
      own a_bar o h = absurd h
      own (a_close m) o h = (arc (fork_arc o.0) o.1 o.2 (suc i), o.3, eqb_refl (suc i))

  -- a propagate edge enters exactly if the letter may be skipped, or the close shows an edge over its union
  pub skips_show : skips es i ≡ token_skips (token s i)
  skips_show = shown (λ w a z. is_propagate w && eqb (suc i) z) token_skips out own
    where
      over : (a z : ℕ) → suc i ≡ z → Skips (token s) a z → T (token_skips (token s i))
      over a z e (over_letter c r q k h) = known token_skips a (a_letter c r) (omega arith) k h
      over a z e (over_union u m q k h) = known token_skips u (a_close m) (omega arith) k h

      out : (w : ArcKind) (a z : ℕ) → Says (token s) w a z → T (is_propagate w && eqb (suc i) z) → T (token_skips (token s i))
      out (letter_arc c) a z m h = absurd h
      out (loop_arc c) a z m h = absurd h
      out propagate_arc a z m h = over a z (eqb→eq (suc i) z h) m
      out (fork_arc xs) a z m h = absurd h
      out back_arc a z m h = absurd h

      own : (x : Token) → Owns (In es) x i → T (token_skips x) → (e : Arc) × In es e × T (is_propagate e.kind && eqb (suc i) e.to)
      own (a_letter c r) o h = (arc propagate_arc o.0 i (suc i), o.3 h, eqb_refl (suc i))
      own an_open o h = absurd h
      own a_bar o h = absurd h
      own (a_close m) o h = (arc propagate_arc o.1 o.2 (suc i), o.4 h, eqb_refl (suc i))

  -- a back edge starts exactly where a close shows it
  pub returns_show : comes_back es i ≡ token_returns (token s i)
  returns_show = shown (λ w a z. is_return w && eqb i a) token_returns out own
    where
      out : (w : ArcKind) (a z : ℕ) → Says (token s) w a z → T (is_return w && eqb i a) → T (token_returns (token s i))
      out (letter_arc c) a z m h = absurd h
      out (loop_arc c) a z m h = absurd h
      out propagate_arc a z m h = absurd h
      out (fork_arc xs) a z m h = absurd h
      out back_arc a z m h = known token_returns a (a_close m.0) (eqb→eq i a h) m.1 m.2

      own : (x : Token) → Owns (In es) x i → T (token_returns x) → (e : Arc) × In es e × T (is_return e.kind && eqb i e.from)
      own (a_letter c r) o h = absurd h
      own an_open o h = absurd h
      own a_bar o h = absurd h
      own (a_close m) o h = (arc back_arc o.1 i (suc o.2), o.5 h, eqb_refl i)

-- ---- the letters' and the loops' sets are those of the tokens
module _ (s : Seq) (b : ℕ) where
  -- no letter and no loop leads to state 0
  none_at_zero : (test : ArcKind → Bool) → ((w : ArcKind) (a z : ℕ) → Says (token s) w a z → T (test w) → 0 ≡ z → ⊥)
      → any (λ e. test e.kind && eqb 0 e.to) (arcs s 0 0) ≡ false
  none_at_zero test never = is_not (any (λ e. test e.kind && eqb 0 e.to) (arcs s 0 0)) no
    where
      no : T (any (λ e. test e.kind && eqb 0 e.to) (arcs s 0 0)) → ⊥
      no h =
          let r = any_out (λ e. test e.kind && eqb 0 e.to) (arcs s 0 0) h in
          let k = and_split (test r.0.kind) (eqb 0 r.0.to) r.2 in
          never r.0.kind r.0.from r.0.to (says s r.0 r.1) k.0 (eqb→eq 0 r.0.to k.1)

  pub letters_are : (x : ℕ) → x < suc (seq_end s 0) → token_letters (tokens s []) b x ≡ letter_set (arcs s 0 0) b x
  letters_are zero h = sym (none_at_zero (takes_byte b) never)
    where
      never : (w : ArcKind) (a z : ℕ) → Says (token s) w a z → T (takes_byte b w) → 0 ≡ z → ⊥
      never (letter_arc c) a z m t e = omega (arith, m.0)
      never (loop_arc c) a z m t e = absurd t
      never propagate_arc a z m t e = absurd t
      never (fork_arc xs) a z m t e = absurd t
      never back_arc a z m t e = absurd t
  letters_are (suc i) h = sym (letters_show s i (le_of_suc-le-suc h) b)

  pub loops_are : (x : ℕ) → x < suc (seq_end s 0) → token_loops (tokens s []) b x ≡ loop_set (arcs s 0 0) b x
  loops_are zero h = sym (none_at_zero (loops_byte b) never)
    where
      never : (w : ArcKind) (a z : ℕ) → Says (token s) w a z → T (loops_byte b w) → 0 ≡ z → ⊥
      never (letter_arc c) a z m t e = absurd t
      never (loop_arc c) a z m t e = omega (arith, m.0, m.3)
      never propagate_arc a z m t e = absurd t
      never (fork_arc xs) a z m t e = absurd t
      never back_arc a z m t e = absurd t
  loops_are (suc i) h = sym (loops_show s i (le_of_suc-le-suc h) b)
