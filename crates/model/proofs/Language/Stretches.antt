-- STRETCHES: a text read so far is in a tree's language exactly if it ends with a stretch that the tree spells. Item by item a text of the language
-- after P is one of P and then one that the item spells.
use mathlib.Core.Path.{◌≡◌, refl, sym, ap, ◌∙◌, subst}
use mathlib.Core.Logic.{◌⊎◌, inl, inr, ◌↔◌}
use mathlib.Core.List.{List, [], ◌∷◌, ◌++◌, append_assoc, append-nil}
use Prim.Native.Nat.{ℕ}
use lib.Dec.{T}
use Rattle.model.specs.Lists.{All}
use Rattle.model.specs.Bits.{bit}
use Rattle.model.specs.Tree.{Alts, end, last, letter, Mark, more, once, option, optional, plus, Repeat, Seq, star, starred, union, unmarked}
use Rattle.model.specs.Ends.{again, AltsSpell, GroupSpells, LetterSpells, never, Repeated, Spells}
use Rattle.model.proofs.Language.Languages.{after, after_alts, after_letter, after_mark, after_union, Any, feed, Language, Many, One, Then, within}
use Rattle.model.proofs.Laws.Lists.{all_app}

-- every byte is in the class
abbrev AllIn : ℕ → List ℕ → Type 0
AllIn c v = All (λ b. T (bit c b)) v

pub feed_app : (u x y : List ℕ) → feed u (x ++ y) ≡ feed (feed u x) y
feed_app u [] y = refl
feed_app u (b ∷ x) y = feed_app (b ∷ u) x y

-- ---- a letter
many_out : (c : ℕ) (P : Language) (w : List ℕ) → Many c P w → Then P (LetterSpells c plus) w
many_out c P [] h = absurd h
many_out c P (b ∷ w) h = elim h.1 [ inl p ↦ (w, b ∷ [], refl, p, (b, [], refl, h.0, tt)) | inr m ↦ onto (many_out c P w m) ]
  where
    onto : Then P (LetterSpells c plus) w → Then P (LetterSpells c plus) (b ∷ w)
    onto r =
        let l = r.4 in (
          r.0,
          r.1 ++ (b ∷ []),
          ap {B = List ℕ} (λ x. b ∷ x) r.2 ∙ sym (feed_app r.0 r.1 (b ∷ [])),
          r.3,
          (l.0, l.1 ++ (b ∷ []), ap (λ (x : List ℕ). x ++ (b ∷ [])) l.2, l.3, all_app (λ b. T (bit c b)) l.1 (b ∷ []) l.4 (h.0, tt)),
        )

many_in : (c : ℕ) (P : Language) (u x : List ℕ) → Many c P u → AllIn c x → Many c P (feed u x)
many_in c P u [] m h = m
many_in c P u (b ∷ x) m h = many_in c P (b ∷ u) x (h.0, inr m) h.1

star_in : (c : ℕ) (P : Language) (u x : List ℕ) → P u → AllIn c x → P (feed u x) ⊎ Many c P (feed u x)
star_in c P u [] p h = inl p
star_in c P u (b ∷ x) p h = inr (many_in c P (b ∷ u) x (h.0, inl p) h.1)

letter_out : (c : ℕ) (r : Repeat) (P : Language) (w : List ℕ) → after_letter c r P w → Then P (LetterSpells c r) w
letter_out c once P [] h = absurd h
letter_out c once P (b ∷ w) h = (w, b ∷ [], refl, h.1, (b, refl, h.0))
letter_out c option P w (inl h) = (w, [], refl, h, inl refl)
letter_out c option P [] (inr h) = absurd h
letter_out c option P (b ∷ w) (inr h) = (w, b ∷ [], refl, h.1, inr (b, refl, h.0))
letter_out c star P w (inl h) = (w, [], refl, h, tt)
letter_out c star P w (inr h) = let r = many_out c P w h in (r.0, r.1, r.2, r.3, subst (AllIn c) (sym r.4.2) (r.4.3, r.4.4))
letter_out c plus P w h = many_out c P w h

letter_in : (c : ℕ) (r : Repeat) (P : Language) (u x : List ℕ) → P u → LetterSpells c r x → after_letter c r P (feed u x)
letter_in c once P u x p h = subst (λ (v : List ℕ). One c P (feed u v)) (sym h.1) (h.2, p)
letter_in c option P u x p (inl h) = inl (subst (λ (v : List ℕ). P (feed u v)) (sym h) p)
letter_in c option P u x p (inr h) = inr (subst (λ (v : List ℕ). One c P (feed u v)) (sym h.1) (h.2, p))
letter_in c star P u x p h = star_in c P u x p h
letter_in c plus P u x p h = subst (λ (v : List ℕ). Many c P (feed u v)) (sym h.2) (many_in c P (h.0 ∷ u) h.1 (h.3, inl p) h.4)

-- ---- a sequence and alternatives
join : (P : Language) (Q R : List ℕ → Type 0) (w : List ℕ) → Then (Then P Q) R w → Then P (λ v. (x : List ℕ) × (y : List ℕ) × (v ≡ x ++ y) × Q x × R y) w
join P Q R w h =
    let m = h.3 in
    (m.0, m.1 ++ h.1, h.2 ∙ ap (λ (z : List ℕ). feed z h.1) m.2 ∙ sym (feed_app m.0 m.1 h.1), m.3, (m.1, h.1, refl, m.4, h.4))

mark_out : (m : Mark) (P Q : Language) (R : List ℕ → Type 0) (w : List ℕ) → (Q w → Then P R w) → after_mark m R P Q w → Then P (GroupSpells m R) w
mark_out unmarked P Q R w f h = f h
mark_out optional P Q R w f (inl h) = (w, [], refl, h, inl refl)
mark_out optional P Q R w f (inr h) = let r = f h in (r.0, r.1, r.2, r.3, inr r.4)
mark_out starred P Q R w f h = h

mark_in : (m : Mark) (P Q : Language) (R : List ℕ → Type 0) (u x : List ℕ) → P u → (R x → Q (feed u x)) → GroupSpells m R x → after_mark m R P Q (feed u x)
mark_in unmarked P Q R u x p f h = f h
mark_in optional P Q R u x p f (inl h) = inl (subst (λ (v : List ℕ). P (feed u v)) (sym h) p)
mark_in optional P Q R u x p f (inr h) = inr (f h)
mark_in starred P Q R u x p f h = (u, x, refl, p, h)

mutual
  pub after_out : (s : Seq) (P : Language) (w : List ℕ) → after s P w → Then P (Spells s) w
  after_out end P w h = (w, [], refl, h, refl)
  after_out (letter c r s) P w h =
      let m = after_out s (after_letter c r P) w h in
      join P (LetterSpells c r) (Spells s) w (m.0, m.1, m.2, letter_out c r P m.0 m.3, m.4)
  after_out (union m a s) P w h =
      let n = after_out s (after_union m a P) w h in
      join P (GroupSpells m (AltsSpell a)) (Spells s) w
      (n.0, n.1, n.2, mark_out m P (after_alts a P) (AltsSpell a) n.0 (λ x. alts_out a P n.0 x) n.3, n.4)

  alts_out : (a : Alts) (P : Language) (w : List ℕ) → after_alts a P w → Then P (AltsSpell a) w
  alts_out (last s) P w h = after_out s P w h
  alts_out (more s a) P w (inl h) = let m = after_out s P w h in (m.0, m.1, m.2, m.3, inl m.4)
  alts_out (more s a) P w (inr h) = let m = alts_out a P w h in (m.0, m.1, m.2, m.3, inr m.4)

mutual
  pub after_in : (s : Seq) (P : Language) (u v : List ℕ) → P u → Spells s v → after s P (feed u v)
  after_in end P u v p h = subst (λ (x : List ℕ). P (feed u x)) (sym h) p
  after_in (letter c r s) P u v p h =
      subst (after s (after_letter c r P)) (sym (ap (feed u) h.2 ∙ feed_app u h.0 h.1))
      (after_in s (after_letter c r P) (feed u h.0) h.1 (letter_in c r P u h.0 p h.3) h.4)
  after_in (union m a s) P u v p h =
      subst (after s (after_union m a P)) (sym (ap (feed u) h.2 ∙ feed_app u h.0 h.1))
      (after_in s (after_union m a P) (feed u h.0) h.1
      (mark_in m P (after_alts a P) (AltsSpell a) u h.0 p (λ x. alts_in a P u h.0 p x) h.3) h.4)

  alts_in : (a : Alts) (P : Language) (u v : List ℕ) → P u → AltsSpell a v → after_alts a P (feed u v)
  alts_in (last s) P u v p h = after_in s P u v p h
  alts_in (more s a) P u v p (inl h) = inl (after_in s P u v p h)
  alts_in (more s a) P u v p (inr h) = inr (alts_in a P u v p h)

-- ---- through a union: what comes out of its alternatives is what comes after it, and with `*` also what goes into them
more_of : (R : List ℕ → Type 0) {v : List ℕ} (x : List ℕ) → Repeated R v → R x → Repeated R (v ++ x)
more_of R x (never e) h = again (ap (λ (y : List ℕ). y ++ x) e ∙ sym (append-nil x)) h (never refl)
more_of R x (again {x = y} {y = z} e p r) h = again (ap (λ (y : List ℕ). y ++ x) e ∙ append_assoc y z x) p (more_of R x r h)

pub through_body : (a : Alts) (P : Language) (w : List ℕ) → after_alts a (Then P (Repeated (AltsSpell a))) w → Then P (Repeated (AltsSpell a)) w
through_body a P w h =
    let n = alts_out a (Then P (Repeated (AltsSpell a))) w h in
    let l = n.3 in
    (l.0, l.1 ++ n.1, n.2 ∙ ap (λ (y : List ℕ). feed y n.1) l.2 ∙ sym (feed_app l.0 l.1 n.1), l.3, more_of (AltsSpell a) n.1 l.4 n.4)

pub through_union : (m : Mark) (a : Alts) (P : Language) (w : List ℕ) → after_alts a (within m a P) w → after_union m a P w
through_union unmarked a P w h = h
through_union optional a P w h = inr h
through_union starred a P w h = through_body a P w h

-- THE THEOREM: a text is in the tree's language exactly if it ends with a stretch that the tree spells
pub stretch : (s : Seq) (w : List ℕ) → after s Any w ↔ ((u : List ℕ) × (v : List ℕ) × (w ≡ feed u v) × Spells s v)
stretch s w = (
  λ h. let m = after_out s Any w h in (m.0, m.1, m.2, m.4),
  λ h. subst (after s Any) (sym h.2) (after_in s Any h.0 h.1 tt h.3),
)
