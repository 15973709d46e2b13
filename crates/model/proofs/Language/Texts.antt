-- THE TEXTS OF A STATE, in two ways: by the arcs (`LeadsTo`), and as the language that the tree hands to each state (`Texts`). Carried and Led show
-- that the two are one.
use mathlib.Core.Path.{◌≡◌, refl, sym, ◌∙◌, subst}
use mathlib.Core.List.{List, ◌∷◌}
use Prim.Native.Nat.{ℕ}
use Rattle.model.specs.Tree.{Alts, end, letter, Seq, union}
use Rattle.model.specs.Edges.{seq_end}
use Rattle.model.proofs.Language.Arcs.{Arc, Byte, Still}
use Rattle.model.proofs.Language.Languages.{after, after_letter, after_union, Language, within}
use Rattle.model.proofs.Language.Values.{alts_value, Has, has_end, has_start, HasA, out, table, value}

-- ---- by the arcs of E; a stretch may start at any place, so state 0 is always live
pub data LeadsTo (E : Arc → Type 0) : List ℕ → ℕ → Type 0 where
  start : {w : List ℕ} → LeadsTo E w 0
  still : {w : List ℕ} {q r : ℕ} (e : Arc) → E e → Still e.kind e.from e.to q r → LeadsTo E w q → LeadsTo E w r
  byte : {b : ℕ} {w : List ℕ} {q r : ℕ} (e : Arc) → E e → Byte b e.kind e.from e.to q r → LeadsTo E w q → LeadsTo E (b ∷ w) r

-- ---- by the tree: an alternative starts with the texts of its union's start
abbrev pub handed : ℕ → ℕ → Language → Language
handed t p P = P

abbrev pub Texts : Seq → ℕ → Language → ℕ → Language
Texts = value Language after_letter after_union within handed

abbrev pub AltsTexts : Alts → ℕ → ℕ → Language → ℕ → Language
AltsTexts = alts_value Language after_letter after_union within handed

-- a table W that has them
abbrev pub Has-texts : (ℕ → Language) → Seq → ℕ → Language → Type 1
Has-texts = Has Language after_letter after_union within handed

abbrev pub Has-alts : (ℕ → Language) → Alts → ℕ → ℕ → Language → Type 1
Has-alts = HasA Language after_letter after_union within handed

pub texts_table : (s : Seq) (t : ℕ) (P : Language) → Has-texts (Texts s t P) s t P
texts_table = table Language after_letter after_union within handed

pub start_of : (W : ℕ → Language) (s : Seq) (t : ℕ) (P : Language) → Has-texts W s t P → W t ≡ P
start_of = has_start Language after_letter after_union within handed

pub end_of : (W : ℕ → Language) (s : Seq) (t : ℕ) (P : Language) → Has-texts W s t P → W (seq_end s t) ≡ after s P
end_of W s t P K = has_end Language after_letter after_union within handed W s t P K ∙ out_is s P
  where
    out_is : (s : Seq) (P : Language) → out Language after_letter after_union within handed s P ≡ after s P
    out_is end P = refl
    out_is (letter c r s) P = out_is s (after_letter c r P)
    out_is (union m a s) P = out_is s (after_union m a P)

-- a text goes from one of two equal languages to the other
pub at : {M N : Language} → M ≡ N → {w : List ℕ} → M w → N w
at e {w} h = subst (λ (M : Language). M w) e h

pub to : {M N : Language} → M ≡ N → {w : List ℕ} → N w → M w
to e {w} h = subst (λ (M : Language). M w) (sym e) h
