-- WHAT A SPELLING SPELLS: bytes lead from 0 to the accepting state exactly if the rule spells them. So the latest start is the last place from which
-- the bytes up to the end are spelled.
use mathlib.Core.Path.{◌≡◌, refl, sym, ap, ◌∙◌, subst}
use mathlib.Core.Logic.{inl, inr, ◌↔◌}
use mathlib.Core.List.{List, [], ◌∷◌, ◌++◌, append-nil, reverse, reverse-reverse}
use Prim.Native.Nat.{ℕ, suc, ◌≤◌}
use lib.Dec.{T}
use lib.ListN.{length}
use Rattle.model.specs.Lists.{◌∈◌, All}
use Rattle.model.specs.Bits.{bit}
use Rattle.model.specs.Tree.{Alts, can_loop, can_skip, end, last, letter, Mark, more, once, option, optional, plus, Repeat, Seq, star, starred, Tree, union, unmarked}
use Rattle.model.specs.Edges.{accepting, alts_end, ends_of, seq_end, starts_of, ways}
use Rattle.model.specs.Ends.{again, AltsSpell, GroupSpells, LetterSpells, never, Repeated, Spells}
use Rattle.model.specs.Grammar.{IsRule}
use Rattle.model.specs.Live.{itself, onward}
use Rattle.model.specs.Models.Leads.{Leads}
use Rattle.model.specs.Spelling.{between, Reaches, Spelled}
use Rattle.model.proofs.Definitions.Free.{free_is}
use Rattle.model.proofs.Definitions.Takes.{takes_is}
use Rattle.model.proofs.Image.Decided.{rule_full}
use Rattle.model.proofs.Language.Arcs.{alts_arcs, Arc, arc, arcs, back_arc, Branch, branch_parts, Byte, fork_arc, Letter, letter_parts, letter_arc, loop_arc, propagate_arc, Still}
use Rattle.model.proofs.Language.Carried.{carried, Carries}
use Rattle.model.proofs.Language.Languages.{feed, Language}
use Rattle.model.proofs.Language.Stretches.{after_out}
use Rattle.model.proofs.Language.Texts.{at, end_of, start_of, Texts, texts_table, to}
use Rattle.model.proofs.Laws.Lists.{all_in, all_left, all_right, In, in_all}
use Rattle.model.proofs.Spelling.Ends.{spelled_leads}
use Rattle.model.proofs.Spelling.Leads.{earlier}
use Rattle.model.proofs.Words.Full.{Full, FullA, Single}

-- ---- a way along arcs from one state to another, by bytes
data Goes (E : Arc → Type 0) : ℕ → List ℕ → ℕ → Type 0 where
  here : {q : ℕ} → Goes E q [] q
  still : {q p r : ℕ} {v : List ℕ} (e : Arc) → E e → Still e.kind e.from e.to q p → Goes E p v r → Goes E q v r
  byte : {b q p r : ℕ} {v : List ℕ} (e : Arc) → E e → Byte b e.kind e.from e.to q p → Goes E p v r → Goes E q (b ∷ v) r

module _ (E : Arc → Type 0) where
  goes_on : {q p r : ℕ} {u v : List ℕ} → Goes E q u p → Goes E p v r → Goes E q (u ++ v) r
  goes_on here h = h
  goes_on (still e i m g) h = still e i m (goes_on g h)
  goes_on (byte e i m g) h = byte e i m (goes_on g h)

  -- ---- WHAT IS SPELLED IS A WAY
  letter_goes : (c : ℕ) (r : Repeat) (s : Seq) (t k : ℕ) → Letter E c r s t k → (x : List ℕ) → LetterSpells c r x → Goes E t x (suc t)
  letter_goes c r s t k A x h = go r A.loops A.skips h
    where
      one : (b : ℕ) (v : List ℕ) → T (bit c b) → Goes E (suc t) v (suc t) → Goes E t (b ∷ v) (suc t)
      one b v k g = byte (arc (letter_arc c) _ t (suc t)) A.takes (k, refl, refl) g

      single : ((b : ℕ) × (x ≡ b ∷ []) × T (bit c b)) → Goes E t x (suc t)
      single (b, e, k) = subst (λ (v : List ℕ). Goes E t v (suc t)) (sym e) (one b [] k here)

      loop : (l : E (arc (loop_arc c) k (suc t) (suc t))) (v : List ℕ) → All (λ b. T (bit c b)) v → Goes E (suc t) v (suc t)
      loop l [] a = here
      loop l (b ∷ v) a = byte (arc (loop_arc c) k (suc t) (suc t)) l (a.0, refl, refl) (loop l v a.1)

      go : (r : Repeat) → (T (can_loop r) → E (arc (loop_arc c) k (suc t) (suc t))) → (T (can_skip r) → E (arc propagate_arc k t (suc t))) → LetterSpells c r x → Goes E t x (suc t)
      go once l z h = single h
      go option l z (inl e) = subst (λ (v : List ℕ). Goes E t v (suc t)) (sym e) (still (arc propagate_arc k t (suc t)) (z tt) (refl, refl) here)
      go option l z (inr h) = single h
      go star l z h = many x h
        where
          many : (v : List ℕ) → All (λ b. T (bit c b)) v → Goes E t v (suc t)
          many [] a = still (arc propagate_arc k t (suc t)) (z tt) (refl, refl) here
          many (b ∷ v) a = one b v a.0 (loop (l tt) v a.1)
      go plus l z (b, y, e, k, a) = subst (λ (v : List ℕ). Goes E t v (suc t)) (sym e) (one b y k (loop (l tt) y a))

  -- from an alternative's start to its end
  abbrev Through : Alts → ℕ → List ℕ → Type 0
  Through a p v = (i : ℕ) × (j : ℕ) × (i ∈ starts_of (ways a p)) × (j ∈ ends_of (ways a p)) × Goes E i v j

  -- into a union, through it and out
  through_goes : (m : Mark) (a : Alts) (s : Seq) (t k : ℕ) → Branch E m a s t k → (x : List ℕ) → Through a t x → Goes E t x (suc (alts_end a t))
  through_goes m a s t k B x (i, j, h, l, g) =
      let u = suc (alts_end a t) in
      let F = arc (fork_arc (ways a t)) k t u in
      subst (λ (z : List ℕ). Goes E t z u) (append-nil x) (still F B.forks (inl (refl, h)) (goes_on g (still F B.forks (inr (l, refl)) here)))

  -- a group with `*`: over it; or into its body, back as often as the body is spelled again, and out
  cycle_goes : (b s : Seq) (t k : ℕ) → Branch E starred (last b) s t k → ((x : List ℕ) → Spells b x → Goes E (suc t) x (seq_end b (suc t)))
      → (x : List ℕ) → Repeated (Spells b) x → Goes E t x (suc (seq_end b (suc t)))
  cycle_goes b s t k B f x h = go h
    where
      z : ℕ
      z = seq_end b (suc t)

      F : Arc
      F = arc (fork_arc (ways (last b) t)) k t (suc z)

      on : {v : List ℕ} → Repeated (Spells b) v → Goes E z v (suc z)
      on (never e) = subst (λ (v : List ℕ). Goes E z v (suc z)) (sym e) (still F B.forks (inr (inl refl, refl)) here)
      on (again {x = x} e p r) =
          subst (λ (v : List ℕ). Goes E z v (suc z)) (sym e) (still (arc back_arc k z (suc t)) (B.returns tt) (refl, refl) (goes_on (f x p) (on r)))

      go : {v : List ℕ} → Repeated (Spells b) v → Goes E t v (suc z)
      go (never e) = subst (λ (v : List ℕ). Goes E t v (suc z)) (sym e) (still (arc propagate_arc k t (suc z)) (B.skips tt) (refl, refl) here)
      go (again {x = x} e p r) = subst (λ (v : List ℕ). Goes E t v (suc z)) (sym e) (still F B.forks (inl (refl, inl refl)) (goes_on (f x p) (on r)))

  -- a union by one of its alternatives, or over it or around where its mark lets it
  union_goes : (m : Mark) (a : Alts) (s : Seq) (t k : ℕ) → Single m a → Branch E m a s t k → ((x : List ℕ) → AltsSpell a x → Through a t x)
      → (x : List ℕ) → GroupSpells m (AltsSpell a) x → Goes E t x (suc (alts_end a t))
  union_goes unmarked a s t k S B f x h = through_goes unmarked a s t k B x (f x h)
  union_goes optional a s t k S B f x (inl o) =
      let u = suc (alts_end a t) in
      subst (λ (v : List ℕ). Goes E t v u) (sym o) (still (arc propagate_arc k t u) (B.skips tt) (refl, refl) here)
  union_goes optional a s t k S B f x (inr h) = through_goes optional a s t k B x (f x h)
  union_goes starred (last b) s t k S B f x h = cycle_goes b s t k B (λ v p. body v (f v p)) x h
    where
      body : (v : List ℕ) → Through (last b) t v → Goes E (suc t) v (seq_end b (suc t))
      body v (i, j, inl d, inl e, g) = subst (λ (y : ℕ). Goes E (suc t) v y) e (subst (λ (y : ℕ). Goes E y v j) d g)
      body v (i, j, inl d, inr e, g) = absurd e
      body v (i, j, inr d, e, g) = absurd d
  union_goes starred (more b a) s t k S B f x h = absurd S

  mutual
    spells_goes : (s : Seq) (t k : ℕ) → Full s → All E (arcs s t k) → (v : List ℕ) → Spells s v → Goes E t v (seq_end s t)
    spells_goes end t k F A v h = subst (λ (x : List ℕ). Goes E t x t) (sym h) here
    spells_goes (letter c r s) t k F A v (x, y, e, h, l) =
        let B = letter_parts E c r s t k A in
        subst (λ (w : List ℕ). Goes E t w (seq_end s (suc t))) (sym e) (goes_on (letter_goes c r s t k B x h) (spells_goes s (suc t) k F B.rest y l))
    spells_goes (union m a s) t k F A v (x, y, e, h, l) =
        let B = branch_parts E m a s t k A in
        let u = suc (alts_end a t) in
        subst (λ (z : List ℕ). Goes E t z (seq_end s u)) (sym e)
        (goes_on (union_goes m a s t k F.2 B (λ v i. alts_goes a t k F.0 B.alts v i) x h) (spells_goes s u k F.1 B.rest y l))

    alts_goes : (a : Alts) (p k : ℕ) → FullA a → All E (alts_arcs a p k) → (v : List ℕ) → AltsSpell a v → Through a p v
    alts_goes (last s) p k F A v h = (suc p, seq_end s (suc p), inl refl, inl refl, spells_goes s (suc p) (suc k) F.1 A v h)
    alts_goes (more s a) p k F A v (inl h) =
        let z = seq_end s (suc p) in
        (suc p, z, inl refl, inl refl, spells_goes s (suc p) (suc k) F.1 (all_left E (arcs s (suc p) (suc k)) (alts_arcs a z k) A) v h)
    alts_goes (more s a) p k F A v (inr h) =
        let z = seq_end s (suc p) in
        let w = alts_goes a z k F.2 (all_right E (arcs s (suc p) (suc k)) (alts_arcs a z k) A) v h in
        (w.0, w.1, inr w.2, inr w.3, w.4)

module _ (t : Tree) where
  abbrev Ways : ℕ → List ℕ → ℕ → Type 0
  Ways = Goes (In (arcs t 0 0))

  -- ---- a way to the accepting state leads there, and the other way round
  goes_leads : {q r : ℕ} {v : List ℕ} → Ways q v r → r ≡ accepting t → Leads t v q
  goes_leads (here {q}) e = itself (sym e)
  goes_leads (still {q} {p} {v = v} a i m g) e = earlier t v (onward (itself refl) ((free_is t q p).1 (a, i, m))) (goes_leads g e)
  goes_leads (byte {b} {q} {p} a i m g) e = (q, itself refl, (p, (takes_is t b q p).1 (a, i, m), goes_leads g e))

  reaches_goes : {q p r : ℕ} {v : List ℕ} → Reaches t q p → Ways p v r → Ways q v r
  reaches_goes {r = r} {v = v} (itself e) g = subst (λ (x : ℕ). Ways x v r) e g
  reaches_goes (onward {q = x} {r = y} h e) g = let a = (free_is t x y).0 e in reaches_goes h (still a.0 a.1 a.2 g)

  leads_goes : (v : List ℕ) (q : ℕ) → Leads t v q → Ways q v (accepting t)
  leads_goes [] q h = reaches_goes h here
  leads_goes (b ∷ v) q (p, h, (r, k, l)) = let a = (takes_is t b p r).0 k in reaches_goes h (byte a.0 a.1 a.2 (leads_goes v r l))

  -- ---- A WAY IS SPELLED: every arc carries the languages of the states along, of texts that begin in state 0
  abbrev None : Language
  None w = w ≡ []

  abbrev L : ℕ → Language
  L = Texts t 0 None

  carries : (e : Arc) → e ∈ arcs t 0 0 → Carries L e
  carries = all_in (Carries L) (arcs t 0 0) (carried L t 0 0 None (texts_table t 0 None))

  goes_text : {q r : ℕ} {v : List ℕ} (w : List ℕ) → Ways q v r → L q w → L r (feed w v)
  goes_text w here l = l
  goes_text w (still {q} {p} e i m g) l = goes_text w g ((carries e i).still q p m w l)
  goes_text w (byte {b} {q} {p} e i m g) l = goes_text (b ∷ w) g ((carries e i).byte b q p m w l)

  -- THE THEOREM: the bytes that lead from 0 to the accepting state are those that the rule spells
  leads_spells : Full t → (v : List ℕ) → Leads t v 0 ↔ Spells t v
  leads_spells F v = (there, λ h. goes_leads (spells_goes (In (arcs t 0 0)) t 0 0 F (in_all (arcs t 0 0)) v h) refl)
    where
      there : Leads t v 0 → Spells t v
      there h =
          let l = goes_text [] (leads_goes v 0 h) (to (start_of L t 0 None (texts_table t 0 None)) refl) in
          let o = after_out t None (feed [] v) (at (end_of L t 0 None (texts_table t 0 None)) l) in
          let e : feed [] v ≡ feed [] o.1 = o.2 ∙ ap (λ (u : List ℕ). feed u o.1) o.3 in
          subst (Spells t) (sym (sym (reverse-reverse v) ∙ ap reverse e ∙ reverse-reverse o.1)) o.4

  -- so a spelling exists from one place to another exactly if the bytes between them are spelled
  pub spelled_spells : {rule : List ℕ} → IsRule rule t → (text : List ℕ) (start stop : ℕ)
      → ((states : List ℕ) × Spelled t text start stop states) ↔ ((stop ≤ length text) × (start ≤ stop) × Spells t (between text start stop))
  spelled_spells R text start stop = (
    λ s. let l = (spelled_leads t text start stop).0 s in (l.0, l.1, (leads_spells (rule_full t R) (between text start stop)).0 l.2),
    λ (l, m, h). (spelled_leads t text start stop).1 (l, m, (leads_spells (rule_full t R) (between text start stop)).1 h),
  )
