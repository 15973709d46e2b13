-- A TEXT OF A STATE'S LANGUAGE LEADS TO IT: item by item, what leads to the start of an item leads, by the item's arcs, on to its end and to every state
-- inside it.
use mathlib.Core.Path.{◌≡◌, refl, sym, ap, ◌∙◌, subst}
use mathlib.Core.Logic.{◌⊎◌, inl, inr}
use mathlib.Core.Bool.{cond}
use mathlib.Core.List.{List, [], ◌∷◌, ◌++◌, append-nil}
use Prim.Native.Nat.{ℕ, suc, ◌≤◌, ◌<◌}
use native.Mathlib.Nat.{le_refl, eq-or-lt_of_le}
use native.Mathlib.Omega.{arith}
use lib.Dec.{T, leb}
use Rattle.model.specs.Lists.{◌∈◌, All}
use Rattle.model.specs.Bits.{bit}
use Rattle.model.specs.Tree.{Alts, can_loop, can_omit, can_return, can_skip, end, last, letter, Mark, more, once, option, optional, plus, Repeat, Seq, star, starred, union, unmarked}
use Rattle.model.specs.Edges.{alts_empty, alts_end, ends_of, seq_end, starts_of, ways}
use Rattle.model.specs.Ends.{again, AltsSpell, never, Repeated}
use Rattle.model.proofs.Language.Arcs.{alts_arcs, Arc, arc, arcs, back_arc, Branch, branch_parts, fork_arc, Letter, letter_parts, letter_arc, loop_arc, propagate_arc}
use Rattle.model.proofs.Language.Languages.{after, after_alts, after_letter, after_union, feed, Language, Many, seq_end_le, within}
use Rattle.model.proofs.Language.Stretches.{after_in, feed_app}
use Rattle.model.proofs.Language.Texts.{AltsTexts, at, byte, end_of, LeadsTo, still, Texts, texts_table, to}
use Rattle.model.proofs.Laws.Bool.{le_or_lt, or_left, pick-gt, pick-le}
use Rattle.model.proofs.Laws.Lists.{all_left, all_right}
use Rattle.model.proofs.Words.Full.{first_start, Full, FullA, last_end, Single}

at_end : (s : Seq) (t : ℕ) (P : Language) (w : List ℕ) → after s P w → Texts s t P (seq_end s t) w
at_end s t P w h = to (end_of (Texts s t P) s t P (texts_table s t P)) h

module _ (E : Arc → Type 0) where
  -- every text of P leads to q
  abbrev Reaches : Language → ℕ → Type 0
  Reaches P q = (w : List ℕ) → P w → LeadsTo E w q

  -- ---- a letter
  loop_leads : (c k q : ℕ) (P : Language) → E (arc (loop_arc c) k q q) → ((b : ℕ) (w : List ℕ) → T (bit c b) → P w → LeadsTo E (b ∷ w) q) → Reaches (Many c P) q
  loop_leads c k q P l f [] h = absurd h
  loop_leads c k q P l f (b ∷ w) h =
      elim h.1 [ inl p ↦ f b w h.0 p | inr m ↦ byte (arc (loop_arc c) k q q) l (h.0, refl, refl) (loop_leads c k q P l f w m) ]

  letter_leads : (c : ℕ) (r : Repeat) (s : Seq) (t k : ℕ) (P : Language) → Letter E c r s t k → Reaches P t → Reaches (after_letter c r P) (suc t)
  letter_leads c r s t k P A h = go r A.loops A.skips
    where
      one : (b : ℕ) (w : List ℕ) → T (bit c b) → P w → LeadsTo E (b ∷ w) (suc t)
      one b w x p = byte (arc (letter_arc c) k t (suc t)) A.takes (x, refl, refl) (h w p)

      go : (r : Repeat) → (T (can_loop r) → E (arc (loop_arc c) k (suc t) (suc t))) → (T (can_skip r) → E (arc propagate_arc k t (suc t)))
          → Reaches (after_letter c r P) (suc t)
      go once loops skips [] x = absurd x
      go once loops skips (b ∷ w) x = one b w x.0 x.1
      go option loops skips w (inl x) = still (arc propagate_arc k t (suc t)) (skips tt) (refl, refl) (h w x)
      go option loops skips [] (inr x) = absurd x
      go option loops skips (b ∷ w) (inr x) = one b w x.0 x.1
      go star loops skips w (inl x) = still (arc propagate_arc k t (suc t)) (skips tt) (refl, refl) (h w x)
      go star loops skips w (inr x) = loop_leads c k (suc t) P (loops tt) one w x
      go plus loops skips w x = loop_leads c k (suc t) P (loops tt) one w x

  -- ---- a sequence and alternatives: from the alternatives' starts, and from their ends
  abbrev FromStarts : Alts → ℕ → Language → Type 0
  FromStarts a p P = (r : ℕ) → r ∈ starts_of (ways a p) → Reaches P r

  abbrev FromEnds : Alts → ℕ → ℕ → Type 0
  FromEnds a p e = (w : List ℕ) (q : ℕ) → q ∈ ends_of (ways a p) → LeadsTo E w q → LeadsTo E w e

  -- ---- a body from b to z with a back edge: what leads to b, and then some texts that the body spells, leads to b; and to z if there is at least one
  module _ (S : List ℕ → Type 0) (k b z : ℕ) (back : E (arc back_arc k z b)) (round : (u x : List ℕ) → LeadsTo E u b → S x → LeadsTo E (feed u x) z) where
    turn : {v : List ℕ} → LeadsTo E v z → LeadsTo E v b
    turn h = still (arc back_arc k z b) back (refl, refl) h

    rounds_end : (u x : List ℕ) {y : List ℕ} → LeadsTo E u b → S x → Repeated S y → LeadsTo E (feed u (x ++ y)) z
    rounds_end u x h p (never e) = subst (λ (y : List ℕ). LeadsTo E (feed u y) z) (sym (ap (λ (y : List ℕ). x ++ y) e ∙ append-nil x)) (round u x h p)
    rounds_end u x h p (again {x = x'} {y = y'} e q r) =
        subst (λ (v : List ℕ). LeadsTo E v z) (sym (ap (λ (y : List ℕ). feed u (x ++ y)) e ∙ feed_app u x (x' ++ y')))
        (rounds_end (feed u x) x' (turn (round u x h p)) q r)

    rounds_start : (u : List ℕ) {v : List ℕ} → LeadsTo E u b → Repeated S v → LeadsTo E (feed u v) b
    rounds_start u h (never e) = subst (λ (v : List ℕ). LeadsTo E (feed u v) b) (sym e) h
    rounds_start u h (again {x = x} {y = y} e p r) = subst (λ (v : List ℕ). LeadsTo E (feed u v) b) (sym e) (turn (rounds_end u x h p r))

  -- ---- a union: from its start into its alternatives, and through them to its end e
  -- once round the body of a group with `*`
  abbrev Round : Alts → ℕ → Type 0
  Round a t = (u x : List ℕ) → LeadsTo E u (suc t) → AltsSpell a x → LeadsTo E (feed u x) (alts_end a t)

  only_start : (a : Alts) (t r : ℕ) → Single starred a → r ∈ starts_of (ways a t) → r ≡ suc t
  only_start (last s) t r S (inl e) = e
  only_start (last s) t r S (inr x) = absurd x
  only_start (more s a) t r S i = absurd S

  module _ (m : Mark) (a : Alts) (t e k : ℕ) (P : Language) (S : Single m a) (from : FromStarts a t P)
      (back : T (can_return m) → E (arc back_arc k (alts_end a t) (suc t))) (round : Single starred a → Round a t) where
    into_union : FromStarts a t (within m a P)
    into_union = go m S back
      where
        go : (m : Mark) → Single m a → (T (can_return m) → E (arc back_arc k (alts_end a t) (suc t))) → FromStarts a t (within m a P)
        go unmarked S back r i w h = from r i w h
        go optional S back r i w h = from r i w h
        go starred S back r i w (u, v, d, p, R) =
            subst (λ (x : ℕ). LeadsTo E w x) (sym (only_start a t r S i)) (subst (λ (x : List ℕ). LeadsTo E x (suc t)) (sym d)
            (rounds_start (AltsSpell a) k (suc t) (alts_end a t) (back tt) (round S) u (from (suc t) (first_start a t) u p) R))

    past_union : (T (can_omit m) → Reaches P e) → FromEnds a t e → Reaches (after_alts a P) e → Reaches (after_union m a P) e
    past_union = go m S back
      where
        go : (m : Mark) → Single m a → (T (can_return m) → E (arc back_arc k (alts_end a t) (suc t))) → (T (can_omit m) → Reaches P e) → FromEnds a t e
            → Reaches (after_alts a P) e → Reaches (after_union m a P) e
        go unmarked S back over_it gather ends w x = ends w x
        go optional S back over_it gather ends w (inl x) = over_it tt w x
        go optional S back over_it gather ends w (inr x) = ends w x
        go starred S back over_it gather ends w (u, v, d, p, never c) = over_it tt w (subst P (sym (d ∙ ap (feed u) c)) p)
        go starred S back over_it gather ends w (u, v, d, p, again {x = x} c y R) =
            gather w (alts_end a t) (last_end a t) (subst (λ (x : List ℕ). LeadsTo E x (alts_end a t)) (sym (d ∙ ap (feed u) c))
            (rounds_end (AltsSpell a) k (suc t) (alts_end a t) (back tt) (round S) u x (from (suc t) (first_start a t) u p) y R))

  -- THE THEOREM: a text of state q's language leads to q
  mutual
    pub texts_lead : (s : Seq) (t k : ℕ) (P : Language) → Full s → All E (arcs s t k) → Reaches P t
        → (q : ℕ) → t ≤ q → q ≤ seq_end s t → (w : List ℕ) → Texts s t P q w → LeadsTo E w q
    texts_lead end t k P F A h q i j w x = let e : t ≡ q = omega arith in subst (LeadsTo E w) e (h w x)
    texts_lead (letter c r s) t k P F A h q i j w x =
        let rest = Texts s (suc t) (after_letter c r P) q in
        let B = letter_parts E c r s t k A in
        elim (eq-or-lt_of_le i) [
          | inl e ↦ subst (LeadsTo E w) e (h w (at (pick-le q t P rest (omega arith)) x))
          | inr l ↦ texts_lead s (suc t) k (after_letter c r P) F B.rest (letter_leads c r s t k P B h) q l j w (at (pick-gt q t P rest l) x)
        ]
    texts_lead (union m a s) t k P F A h q i j w x =
        go (eq-or-lt_of_le i) (le_or_lt q (alts_end a t)) (λ S v y g p. body_leads a t k (λ w. LeadsTo E w (suc t)) F.0 S B.alts (λ w g. g) v y g p)
        (λ v y. ends_lead a t t u k P F.0 B.alts scatter gather v y)
        (λ f l n y. alts_lead a t t k (within m a P) F.0 B.alts f q l n w y)
        (λ f l y. texts_lead s (suc (alts_end a t)) k (after_union m a P) F.1 B.rest f q l j w y)
      where
        u : ℕ
        u = suc (alts_end a t)

        B : Branch E m a s t k
        B = branch_parts E m a s t k A

        scatter : FromStarts a t P
        scatter r z v y = still (arc (fork_arc (ways a t)) k t u) B.forks (inl (refl, z)) (h v y)

        gather : FromEnds a t u
        gather v z y n = still (arc (fork_arc (ways a t)) k t u) B.forks (inr (y, refl)) n

        over_it : T (can_omit m) → Reaches P u
        over_it x v y = still (arc propagate_arc k t u) (B.skips (or_left (can_omit m) (alts_empty a) x)) (refl, refl) (h v y)

        inner : Language
        inner = AltsTexts a t t (within m a P) q

        rest : Language
        rest = Texts s u (after_union m a P) q

        past : t < q → cond (leb q (alts_end a t)) inner rest w
        past l = at (pick-gt q t P (cond (leb q (alts_end a t)) inner rest) l) x

        go : (t ≡ q) ⊎ (t < q) → (q ≤ alts_end a t) ⊎ (alts_end a t < q) → (Single starred a → Round a t) → Reaches (after_alts a P) u
            → (FromStarts a t (within m a P) → t < q → q ≤ alts_end a t → inner w → LeadsTo E w q)
            → (Reaches (after_union m a P) u → alts_end a t < q → rest w → LeadsTo E w q) → LeadsTo E w q
        go (inl e) o round ends f g = subst (LeadsTo E w) e (h w (at (pick-le q t P (cond (leb q (alts_end a t)) inner rest) (omega arith)) x))
        go (inr l) (inl n) round ends f g = f (into_union m a t u k P F.2 scatter B.returns round) l n (at (pick-le q (alts_end a t) inner rest n) (past l))
        go (inr l) (inr n) round ends f g =
            g (past_union m a t u k P F.2 scatter B.returns round over_it gather ends) n (at (pick-gt q (alts_end a t) inner rest n) (past l))

    -- once round a body
    body_leads : (a : Alts) (t k : ℕ) (P : Language) → FullA a → Single starred a → All E (alts_arcs a t k) → Reaches P (suc t)
        → (u x : List ℕ) → P u → AltsSpell a x → LeadsTo E (feed u x) (alts_end a t)
    body_leads (last b) t k P F S A h u x p y =
        let z = seq_end b (suc t) in
        texts_lead b (suc t) (suc k) P F.1 A h z (seq_end_le b (suc t)) (le_refl z) (feed u x) (at_end b (suc t) P (feed u x) (after_in b P u x p y))
    body_leads (more b a) t k P F S A h u x p y = absurd S

    alts_lead : (a : Alts) (t p k : ℕ) (P : Language) → FullA a → All E (alts_arcs a p k) → FromStarts a p P
        → (q : ℕ) → p < q → q ≤ alts_end a p → (w : List ℕ) → AltsTexts a t p P q w → LeadsTo E w q
    alts_lead (last s) t p k P F A h q i j w x = texts_lead s (suc p) (suc k) P F.1 A (h (suc p) (inl refl)) q i j w x
    alts_lead (more s a) t p k P F A h q i j w x =
        let z = seq_end s (suc p) in
        let here = Texts s (suc p) P q in
        let later = AltsTexts a t z P q in
        elim (le_or_lt q z) [
          | inl m ↦ texts_lead s (suc p) (suc k) P F.1 (all_left E (arcs s (suc p) (suc k)) (alts_arcs a z k) A) (h (suc p) (inl refl)) q i m w (at (pick-le q z here later m) x)
          | inr m ↦ alts_lead a t z k P F.2 (all_right E (arcs s (suc p) (suc k)) (alts_arcs a z k) A) (λ r b. h r (inr b)) q m j w (at (pick-gt q z here later m) x)
        ]

    -- what the alternatives spell leads through them to the union's end
    ends_lead : (a : Alts) (t p e k : ℕ) (P : Language) → FullA a → All E (alts_arcs a p k) → FromStarts a p P → FromEnds a p e
        → (w : List ℕ) → after_alts a P w → LeadsTo E w e
    ends_lead (last s) t p e k P F A h o w x =
        let z = seq_end s (suc p) in
        o w z (inl refl) (texts_lead s (suc p) (suc k) P F.1 A (h (suc p) (inl refl)) z (seq_end_le s (suc p)) (le_refl z) w (at_end s (suc p) P w x))
    ends_lead (more s a) t p e k P F A h o w (inl x) =
        let z = seq_end s (suc p) in
        let first = all_left E (arcs s (suc p) (suc k)) (alts_arcs a z k) A in
        o w z (inl refl) (texts_lead s (suc p) (suc k) P F.1 first (h (suc p) (inl refl)) z (seq_end_le s (suc p)) (le_refl z) w (at_end s (suc p) P w x))
    ends_lead (more s a) t p e k P F A h o w (inr x) =
        let z = seq_end s (suc p) in
        ends_lead a t z e k P F.2 (all_right E (arcs s (suc p) (suc k)) (alts_arcs a z k) A) (λ r b. h r (inr b)) (λ v q b. o v q (inr b)) w x
