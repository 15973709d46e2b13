-- WHAT IS KNOWN OF EACH STATE of a tree: its depth, the start of its own sequence, the start of the union around that, and whether the way from its
-- sequence's start needs no letter. Every arc joins states that fit together so; it is shown item by item along the tree.
use mathlib.Core.Path.{◌≡◌, refl, sym, ap, ◌∙◌, subst}
use mathlib.Core.Logic.{inl, inr}
use mathlib.Core.Bool.{Bool, true, ◌&&◌}
use mathlib.Core.List.{List}
use Prim.Native.Nat.{ℕ, suc, ◌+◌, ◌≤◌, ◌<◌}
use native.Mathlib.Omega.{arith}
use lib.Dec.{T}
use Rattle.model.specs.Lists.{◌∈◌, All}
use Rattle.model.specs.Tree.{Alts, can_omit, can_skip, end, last, letter, Mark, more, Repeat, Seq, union}
use Rattle.model.specs.Edges.{alts_depth, alts_empty, alts_end, depth, ends_of, seq_empty, seq_end, starts_of, union_empty, Way, ways}
use Rattle.model.proofs.Language.Arcs.{alts_arcs, Arc, arc, ArcKind, arcs, back_arc, branch_parts, branch_whole, fork_arc, letter_parts, letter_whole, letter_arc, loop_arc, propagate_arc}
use Rattle.model.proofs.Language.Values.{Has, has_end, has_start, HasA, out, table, value}
use Rattle.model.proofs.Laws.Bool.{and_both, and_split, or_left, or_right}
use Rattle.model.proofs.Laws.Lists.{all_app, all_left, all_right}

pub record Info : Type 0 where
  pub level : ℕ
  pub home : ℕ
  pub source : ℕ
  pub free : Bool

-- ---- handed on along the tree
abbrev past_item : Bool → Info → Info
past_item skips v = record { level = v.level; home = v.home; source = v.source; free = skips && v.free }

abbrev through : ℕ → Repeat → Info → Info
through c r v = past_item (can_skip r) v

abbrev past : Mark → Alts → Info → Info
past m a v = past_item (union_empty m a) v

abbrev into : Mark → Alts → Info → Info
into m a v = v

abbrev inside : ℕ → ℕ → Info → Info
inside t p v = record { level = suc v.level; home = p; source = t; free = true }

abbrev Known : (ℕ → Info) → Seq → ℕ → Info → Type 0
Known = Has Info through past into inside

abbrev KnownA : (ℕ → Info) → Alts → ℕ → ℕ → Info → Type 0
KnownA = HasA Info through past into inside

abbrev at_end : Seq → Info → Info
at_end = out Info through past into inside

-- at a sequence's end: if the way there needs no letter, the sequence can spell the empty text
end_free : (s : Seq) (v : Info) → T (at_end s v).free → T (seq_empty s) × T v.free
end_free end v h = (tt, h)
end_free (letter c r s) v h =
    let x = end_free s (through c r v) h in
    let y = and_split (can_skip r) v.free x.1 in
    (and_both (can_skip r) (seq_empty s) y.0 x.0, y.1)
end_free (union m a s) v h =
    let x = end_free s (past m a v) h in
    let y = and_split (union_empty m a) v.free x.1 in
    (and_both (union_empty m a) (seq_empty s) y.0 x.0, y.1)

end_level : (s : Seq) (v : Info) → (at_end s v).level ≡ v.level
end_level end v = refl
end_level (letter c r s) v = end_level s (through c r v)
end_level (union m a s) v = end_level s (past m a v)

end_home : (s : Seq) (v : Info) → (at_end s v).home ≡ v.home
end_home end v = refl
end_home (letter c r s) v = end_home s (through c r v)
end_home (union m a s) v = end_home s (past m a v)

-- ---- what an arc of depth k says of its states, in a tree of depth d: a propagate arc from q to r
pub record Skip (W : ℕ → Info) (d k q r : ℕ) : Type 0 where
  pub low : k ≤ d
  pub level_from : (W q).level ≡ k
  pub level_to : (W r).level ≡ k
  pub same : (W r).home ≡ (W q).home
  pub on : T (W q).free → T (W r).free

-- a fork, from the union's start q to the alternative's start r
pub record Begin (W : ℕ → Info) (k q r : ℕ) : Type 0 where
  pub level : (W r).level ≡ suc k
  pub own : (W r).home ≡ r
  pub source : (W r).source ≡ q
  pub free : T (W r).free

-- from the alternative's end q to the union's end r: if the alternative needs no letter, a propagate arc of E goes past it
pub record Finish (E : Arc → Type 0) (W : ℕ → Info) (k q r : ℕ) : Type 0 where
  pub level : (W q).level ≡ suc k
  pub bypass : T (W q).free → E (arc propagate_arc k (W (W q).home).source r)

pub record Split (E : Arc → Type 0) (W : ℕ → Info) (d k i j : ℕ) (xs : List Way) : Type 0 where
  pub low : k < d
  pub level_from : (W i).level ≡ k
  pub level_to : (W j).level ≡ k
  pub begins : (r : ℕ) → r ∈ starts_of xs → Begin W k i r
  pub ends : (q : ℕ) → q ∈ ends_of xs → Finish E W k q j

abbrev Fits : (E : Arc → Type 0) (W : ℕ → Info) (d : ℕ) → ArcKind → ℕ → ℕ → ℕ → Type 0
Fits E W d (letter_arc c) k q r = Unit
Fits E W d (loop_arc c) k q r = Unit
Fits E W d propagate_arc k q r = Skip W d k q r
Fits E W d (fork_arc xs) k q r = Split E W d k q r xs
Fits E W d back_arc k q r = k < d

module _ (E : Arc → Type 0) (W : ℕ → Info) (d : ℕ) where
  abbrev pub ArcFits : Arc → Type 0
  ArcFits e = Fits E W d e.kind e.level e.from e.to

  start_of : (s : Seq) (t : ℕ) (v : Info) → Known W s t v → W t ≡ v
  start_of = has_start Info through past into inside W

  end_of : (s : Seq) (t : ℕ) (v : Info) → Known W s t v → W (seq_end s t) ≡ at_end s v
  end_of = has_end Info through past into inside W

  -- ---- an item that can be skipped, from q to r
  skip_fits : (k q r : ℕ) (v : Info) (skips : Bool) → k ≤ d → v.level ≡ k → W q ≡ v → W r ≡ past_item skips v → T skips → Skip W d k q r
  skip_fits k q r v skips low e from to x = record {
    low = low;
    level_from = ap (λ (i : Info). i.level) from ∙ e;
    level_to = ap (λ (i : Info). i.level) to ∙ e;
    same = ap (λ (i : Info). i.home) to ∙ sym (ap (λ (i : Info). i.home) from);
    on = λ y. subst (λ (i : Info). T i.free) (sym to) (and_both skips v.free x (subst (λ (i : Info). T i.free) from y));
  }

  -- ---- an alternative from p of a union from t to e
  module _ (s : Seq) (t p k : ℕ) (v : Info) (x : v.level ≡ k) (K : Known W s p (inside t p v)) where
    begin_fits : Begin W k t p
    begin_fits =
        let i = start_of s p (inside t p v) K in
        record {
          level = ap (λ (i : Info). i.level) i ∙ ap suc x;
          own = ap (λ (i : Info). i.home) i;
          source = ap (λ (i : Info). i.source) i;
          free = subst (λ (i : Info). T i.free) (sym i) tt;
        }

    finish_fits : (e : ℕ) → (T (seq_empty s) → E (arc propagate_arc k t e)) → Finish E W k (seq_end s p) e
    finish_fits e n = record {
      level = ap (λ (i : Info). i.level) z ∙ end_level s (inside t p v) ∙ ap suc x;
      bypass = λ h. subst (λ (j : ℕ). E (arc propagate_arc k j e)) (sym from) (n (end_free s (inside t p v) (subst (λ (i : Info). T i.free) z h)).0);
    }
      where
        z : W (seq_end s p) ≡ at_end s (inside t p v)
        z = end_of s p (inside t p v) K

        from : (W (W (seq_end s p)).home).source ≡ t
        from = ap (λ (j : ℕ). (W j).source) (ap (λ (i : Info). i.home) z ∙ end_home s (inside t p v)) ∙ begin_fits.source

  begins_fit : (a : Alts) (t p k : ℕ) (v : Info) → v.level ≡ k → KnownA W a t p v → (r : ℕ) → r ∈ starts_of (ways a p) → Begin W k t r
  begins_fit (last s) t p k v e K r (inl x) = subst (Begin W k t) (sym x) (begin_fits s t (suc p) k v e K)
  begins_fit (last s) t p k v e K r (inr x) = absurd x
  begins_fit (more s a) t p k v e K r (inl x) = subst (Begin W k t) (sym x) (begin_fits s t (suc p) k v e K.0)
  begins_fit (more s a) t p k v e K r (inr x) = begins_fit a t (seq_end s (suc p)) k v e K.1 r x

  ends_fit : (a : Alts) (t p j k : ℕ) (v : Info) → v.level ≡ k → (T (alts_empty a) → E (arc propagate_arc k t j))
      → KnownA W a t p v → (q : ℕ) → q ∈ ends_of (ways a p) → Finish E W k q j
  ends_fit (last s) t p j k v e n K q (inl x) = subst (λ (y : ℕ). Finish E W k y j) (sym x) (finish_fits s t (suc p) k v e K j n)
  ends_fit (last s) t p j k v e n K q (inr x) = absurd x
  ends_fit (more s a) t p j k v e n K q (inl x) =
      subst (λ (y : ℕ). Finish E W k y j) (sym x) (finish_fits s t (suc p) k v e K.0 j (λ h. n (or_left (seq_empty s) (alts_empty a) h)))
  ends_fit (more s a) t p j k v e n K q (inr x) = ends_fit a t (seq_end s (suc p)) j k v e (λ h. n (or_right (seq_empty s) (alts_empty a) h)) K.1 q x

  -- ---- all arcs of a sequence at depth k, and of alternatives
  mutual
    fits : (s : Seq) (t k : ℕ) (v : Info) → k + depth s ≤ d → v.level ≡ k → All E (arcs s t k) → Known W s t v → All ArcFits (arcs s t k)
    fits end t k v b e A K = tt
    fits (letter c r s) t k v b e A K =
        letter_whole ArcFits c r s t k (record {
          takes = tt;
          loops = λ n. tt;
          skips = λ n. skip_fits k t (suc t) v (can_skip r) (omega arith) e K.0 (start_of s (suc t) (through c r v) K.1) n;
          rest = fits s (suc t) k (through c r v) b e (letter_parts E c r s t k A).rest K.1;
        })
    fits (union m a s) t k v b e A K =
        let u = suc (alts_end a t) in
        let i = start_of s u (past m a v) K.2 in
        let B = branch_parts E m a s t k A in
        branch_whole ArcFits m a s t k (record {
          skips = λ n. skip_fits k t u v (union_empty m a) (omega arith) e K.0 i n;
          forks = record {
            low = omega arith;
            level_from = ap (λ (i : Info). i.level) K.0 ∙ e;
            level_to = ap (λ (i : Info). i.level) i ∙ e;
            begins = begins_fit a t t k v e K.1;
            ends = ends_fit a t t u k v e (λ n. B.skips (or_right (can_omit m) (alts_empty a) n)) K.1;
          };
          returns = λ n. omega arith;
          alts = alts_fit a t t k v (omega arith) e B.alts K.1;
          rest = fits s u k (past m a v) (omega arith) e B.rest K.2;
        })

    alts_fit : (a : Alts) (t p k : ℕ) (v : Info) → suc k + alts_depth a ≤ d → v.level ≡ k → All E (alts_arcs a p k) → KnownA W a t p v → All ArcFits (alts_arcs a p k)
    alts_fit (last s) t p k v b x A K = fits s (suc p) (suc k) (inside t (suc p) v) b (ap suc x) A K
    alts_fit (more s a) t p k v b x A K =
        let z = seq_end s (suc p) in
        all_app ArcFits (arcs s (suc p) (suc k)) (alts_arcs a z k)
        (fits s (suc p) (suc k) (inside t (suc p) v) (omega arith) (ap suc x) (all_left E (arcs s (suc p) (suc k)) (alts_arcs a z k) A) K.0)
        (alts_fit a t z k v (omega arith) x (all_right E (arcs s (suc p) (suc k)) (alts_arcs a z k) A) K.1)

-- ---- of a whole tree
abbrev at_start : Info
at_start = record { level = 0; home = 0; source = 0; free = true }

pub known : Seq → ℕ → Info
known s = value Info through past into inside s 0 at_start

-- THE THEOREM: every arc of a tree fits what is known of its states
pub tree_fits : (E : Arc → Type 0) (s : Seq) → All E (arcs s 0 0) → All (ArcFits E (known s) (depth s)) (arcs s 0 0)
unfolding known
tree_fits E s A = fits E (known s) (depth s) s 0 0 at_start (omega arith) refl A (table Info through past into inside s 0 at_start)
