-- THE WORKED EXAMPLES HOLD: a test that the checker computes over the whole table, and one law that turns the test into the row.
use mathlib.Core.Path.{◌≡◌, refl, subst}
use mathlib.Core.Bool.{Bool, true, false, not, ◌&&◌}
use mathlib.Core.List.{List, [], ◌∷◌}
use mathlib.Core.Option.{Option, none, some}
use Prim.Native.Nat.{ℕ}
use native.Mathlib.Omega.{arith}
use lib.Dec.{T, eqb, leb, ltb, eqb→eq, leb→le, ltb→lt}
use lib.ListN.{length}
use Rattle.model.specs.Lists.{All}
use Rattle.model.specs.Bits.{mask}
use Rattle.model.specs.Bytes.{bytes}
use Rattle.model.specs.Tree.{Tree}
use Rattle.model.specs.Writing.{writing}
use Rattle.model.specs.Edges.{states}
use Rattle.model.specs.Ends.{EndsAre}
use Rattle.model.specs.Image.{back_source, back_target, gather_block, gather_source, gather_target, image, propagate_block, propagate_source, propagate_target, scatter_block, scatter_source, scatter_target}
use Rattle.model.specs.Place.{PlaceIs}
use Rattle.model.specs.Answers.{not_a_rule}
use Rattle.model.specs.Spelling.{Latest}
use Rattle.model.specs.Worked.{◌⊨◌, Claim, dots, further, gather_at, has_ends, has_image, has_latest, has_no_start, has_states, Holds, is_not_spelled_by, is_spelled_by, is_written, marked, Masks, optional_groups, places, propagate_at, refused_with2, repeated_groups, return_at, Right, Row, scatter_at, spellings}
use Rattle.model.specs.Models.Reader.{read_place, read_rule}
use Rattle.model.specs.Models.Spelling.{is_spelled, latest}
use Rattle.model.specs.Models.Verdict.{same_words}
use Rattle.model.proofs.Definitions.TreeEnds.{tree-ends, tree_ends}
use Rattle.model.proofs.Image.Decided.{rule_full}
use Rattle.model.proofs.Image.Verdict.{same-words}
use Rattle.model.proofs.Laws.Bool.{and_split, is_false}
use Rattle.model.proofs.Reading.Decides.{reads}
use Rattle.model.proofs.Reading.Place.{place_is}
use Rattle.model.proofs.Spelling.Decided.{Found, latest_is, NoSpelling, spelled_is}
use Rattle.model.proofs.Words.Full.{Full}
use Rattle.model.proofs.Words.Run.{Bytes}

-- ---- the test
abbrev are_bytes : List ℕ → Bool
are_bytes [] = true
are_bytes (b ∷ bs) = ltb b 256 && are_bytes bs

abbrev masks_test : Tree → (block source target : ℕ → ℕ → Bool) → (k b s g : ℕ) → Bool
masks_test t block source target k b s g = eqb (mask (states t) (block k)) b && (eqb (mask (states t) (source k)) s && eqb (mask (states t) (target k)) g)

abbrev is_none : {A : Type 0} → Option A → Bool
is_none none = true
is_none (some x) = false

abbrev is_start : ℕ → Option ℕ → Bool
is_start start none = false
is_start start (some i) = eqb i start

abbrev claim_test : Tree → Claim → Bool
claim_test t (is_written w) = same_words (writing t) (bytes w)
claim_test t (has_states m) = eqb (states t) m
claim_test t (scatter_at k b s g) = masks_test t (scatter_block t) (scatter_source t) (scatter_target t) k b s g
claim_test t (gather_at k b s g) = masks_test t (gather_block t) (gather_source t) (gather_target t) k b s g
claim_test t (propagate_at k b s g) = masks_test t (propagate_block t) (propagate_source t) (propagate_target t) k b s g
claim_test t (return_at k s g) = eqb (mask (states t) (back_source t k)) s && eqb (mask (states t) (back_target t k)) g
claim_test t (has_ends text places) = are_bytes (bytes text) && same_words (tree_ends t (bytes text)) places
claim_test t (has_image words) = same_words (image t) words
claim_test t (is_spelled_by text start stop list) = is_spelled t (bytes text) start stop list
claim_test t (is_not_spelled_by text start stop list) = not (is_spelled t (bytes text) start stop list)
claim_test t (has_latest text stop start) = is_start start (latest t (bytes text) stop)
claim_test t (has_no_start text stop) = is_none (latest t (bytes text) stop)

abbrev accepted_test : Option Tree → Claim → Bool
accepted_test none c = false
accepted_test (some t) c = claim_test t c

abbrev row_test : Row → Bool
row_test (rule ⊨ claim) = accepted_test (read_rule (bytes rule)) claim
row_test (refused_with2 rule p) = eqb (read_place (bytes rule)) p && (leb (length (bytes rule)) 1024 && is_none (read_rule (bytes rule)))

abbrev table_test : List Row → Bool
table_test [] = true
table_test (r ∷ rs) = row_test r && table_test rs

-- ---- the law
are-bytes : (bs : List ℕ) → T (are_bytes bs) → Bytes bs
are-bytes [] h = tt
are-bytes (b ∷ bs) h = let k = and_split (ltb b 256) (are_bytes bs) h in (ltb→lt b 256 k.0, are-bytes bs k.1)

masks_right : (t : Tree) (block source target : ℕ → ℕ → Bool) (k b s g : ℕ) → T (masks_test t block source target k b s g) → Masks t block source target k b s g
masks_right t block source target k b s g h =
    let p = and_split (eqb (mask (states t) (block k)) b) (eqb (mask (states t) (source k)) s && eqb (mask (states t) (target k)) g) h in
    let q = and_split (eqb (mask (states t) (source k)) s) (eqb (mask (states t) (target k)) g) p.1 in
    (eqb→eq (mask (states t) (block k)) b p.0, eqb→eq (mask (states t) (source k)) s q.0, eqb→eq (mask (states t) (target k)) g q.1)

claim_right : (t : Tree) → Full t → (c : Claim) → T (claim_test t c) → Holds t c
claim_right t F (is_written w) h = same-words (writing t) (bytes w) h
claim_right t F (has_states m) h = eqb→eq (states t) m h
claim_right t F (scatter_at k b s g) h = masks_right t (scatter_block t) (scatter_source t) (scatter_target t) k b s g h
claim_right t F (gather_at k b s g) h = masks_right t (gather_block t) (gather_source t) (gather_target t) k b s g h
claim_right t F (propagate_at k b s g) h = masks_right t (propagate_block t) (propagate_source t) (propagate_target t) k b s g h
claim_right t F (return_at k s g) h =
    let p = and_split (eqb (mask (states t) (back_source t k)) s) (eqb (mask (states t) (back_target t k)) g) h in
    (eqb→eq (mask (states t) (back_source t k)) s p.0, eqb→eq (mask (states t) (back_target t k)) g p.1)
claim_right t F (has_ends text places) h =
    let k = and_split (are_bytes (bytes text)) (same_words (tree_ends t (bytes text)) places) h in
    subst (EndsAre t (bytes text)) (same-words (tree_ends t (bytes text)) places k.1) (tree-ends t F (bytes text) (are-bytes (bytes text) k.0))
claim_right t F (has_image words) h = same-words (image t) words h
claim_right t F (is_spelled_by text start stop list) h = (spelled_is t F (bytes text) start stop list).0 h
claim_right t F (is_not_spelled_by text start stop list) h =
    λ s. subst T (is_false (is_spelled t (bytes text) start stop list) h) ((spelled_is t F (bytes text) start stop list).1 s)
claim_right t F (has_latest text stop start) h = go (latest t (bytes text) stop) h (latest_is t (bytes text) stop F)
  where
    go : (o : Option ℕ) → T (is_start start o) → Found t (bytes text) stop o → Latest t (bytes text) start stop
    go none k L = absurd k
    go (some i) k L = subst (λ (j : ℕ). Latest t (bytes text) j stop) (eqb→eq i start k) L
claim_right t F (has_no_start text stop) h = go (latest t (bytes text) stop) h (latest_is t (bytes text) stop F)
  where
    go : (o : Option ℕ) → T (is_none o) → Found t (bytes text) stop o → NoSpelling t (bytes text) stop
    go none k f = f
    go (some i) k f = absurd k

row_right : (r : Row) → T (row_test r) → Right r
row_right (rule ⊨ claim) h = go (read_rule (bytes rule)) refl h
  where
    go : (o : Option Tree) → read_rule (bytes rule) ≡ o → T (accepted_test o claim) → Right (rule ⊨ claim)
    go none e k = absurd k
    go (some t) e k = let d = (reads (bytes rule) t).1 e in (t, d, claim_right t (rule_full t d) claim k)
row_right (refused_with2 rule p) h =
    λ before. not_a_rule p (leb→le (length (bytes rule)) 1024 k.0) (λ t d. go (read_rule (bytes rule)) k.1 t ((reads (bytes rule) t).0 d))
    (subst (PlaceIs (bytes rule)) (eqb→eq (read_place (bytes rule)) p q.0) (place_is (bytes rule))) refl
  where
    q : T (eqb (read_place (bytes rule)) p) × T (leb (length (bytes rule)) 1024 && is_none (read_rule (bytes rule)))
    q = and_split (eqb (read_place (bytes rule)) p) (leb (length (bytes rule)) 1024 && is_none (read_rule (bytes rule))) h

    k : T (leb (length (bytes rule)) 1024) × T (is_none (read_rule (bytes rule)))
    k = and_split (leb (length (bytes rule)) 1024) (is_none (read_rule (bytes rule))) q.1

    go : (o : Option Tree) → T (is_none o) → (t : Tree) → o ≡ some t → ⊥
    go none n t e = let z : ◌≡◌ {A = ℕ} 0 1 = cc in omega arith
    go (some u) n t e = n

table_right : (rs : List Row) → T (table_test rs) → All Right rs
table_right [] h = tt
table_right (r ∷ rs) h = let k = and_split (row_test r) (table_test rs) h in (row_right r k.0, table_right rs k.1)

-- EVERY EXAMPLE THAT DOCUMENT 01 MARKS P HOLDS
pub marked_right : All Right marked
marked_right = table_right marked tt

pub optional_groups_right : All Right optional_groups
optional_groups_right = table_right optional_groups tt

pub repeated_groups_right : All Right repeated_groups
repeated_groups_right = table_right repeated_groups tt

pub dots_right : All Right dots
dots_right = table_right dots tt

pub places_right : All Right places
places_right = table_right places tt

pub further_right : All Right further
further_right = table_right further tt

-- AND THE SPELLINGS ARE RIGHT, OR WRONG, AS THEIR ROWS SAY
pub spellings_right : All Right spellings
spellings_right = table_right spellings tt
