-- SPELLINGS OVER THE CONTRACTS of the check and the proposer: what is given settles the check's answer, and the proposer's but for its states; the check
-- says yes to what the proposer gives; and a proposal that gets yes exists exactly for an end. They hold because each table settles its answer
-- (`check_one`, `propose_one`), and by `spelled_end`.
use mathlib.Core.Path.{◌≡◌, refl, sym, ap, ◌∙◌, subst}
use mathlib.Core.Logic.{◌↔◌}
use mathlib.Core.Bool.{true}
use mathlib.Core.List.{List}
use Prim.Native.Nat.{ℕ, ◌-◌, ◌≤◌}
use native.Mathlib.Omega.{arith}
use lib.Dec.{T}
use lib.ListN.{drop, length, take}
use lib.Seq.{take_at}
use Rattle.std.specs.Prelude.{Bool, Ok, Result}
use Rattle.model.specs.Answers.{ImageOf}
use Rattle.model.specs.Ends.{End}
use Rattle.model.specs.Spelling.{CheckSays, Judgement, no_end, no_room, not_an_image, Proposal, ProposeSays, right, Spelled, text_too_long, wrong}
use Rattle.model.specs.Tree.{Tree}
use Rattle.model.proofs.Image.Decided.{one_image}
use Rattle.model.proofs.Spelling.Answers.{check_one, propose_one, settled}
use Rattle.model.proofs.Spelling.Ends.{spelled_end}
use Rattle.answers.specs.Answers.{judgement, proposal}
use Rattle.answers.specs.declared.Proposed.{Proposed}
use Rattle.answers.specs.declared.Refusal.{Refusal}
use Rattle.answers.proofs.Apart.{judgement_apart, proposal_apart}

-- ---- WHAT IS GIVEN SETTLES THE CHECK'S ANSWER
module _ {words text : List ℕ} {start end : ℕ} {states : List ℕ} where
  pub one_judged : (r q : Result Bool Refusal) → CheckSays words text start end states (judgement r) → CheckSays words text start end states (judgement q) → r ≡ q
  one_judged r q A B = judgement_apart r q (check_one words text start end states (judgement r) (judgement q) A B)

-- ---- AND THE PROPOSER'S: its case, with start and count, and every place of the list that it does not write; the states are free
module _ {words text : List ℕ} {end : ℕ} {before : List ℕ} where
  pub one_proposed : (r q : Result Proposed Refusal) (after later : List ℕ) → ProposeSays words text end before (proposal r after)
      → ProposeSays words text end before (proposal q later) → (r ≡ q) × (settled (proposal r after) ≡ settled (proposal q later))
  one_proposed r q after later A B =
      let e = propose_one words text end before (proposal r after) (proposal q later) A B in
      (proposal_apart r q after later e, e)

  -- what done says: an image, a short text, and a right proposal in the first words of the list
  done_spelled : {p : Proposed} {after : List ℕ} {a : Proposal} → a ≡ proposal (Ok p) after → ProposeSays words text end before a
      → (t : Tree) × ImageOf words t × (length text ≤ 65535) × Spelled t text p.start end (take p.count after)
  done_spelled d (not_an_image f e) = absurd (omega (arith, ap (λ (a : Proposal). a.number) (sym e ∙ d)))
  done_spelled d (text_too_long t I l e) = absurd (omega (arith, ap (λ (a : Proposal). a.number) (sym e ∙ d)))
  done_spelled d (no_end t I l f e) = absurd (omega (arith, ap (λ (a : Proposal). a.number) (sym e ∙ d)))
  done_spelled d (no_room t i I l L r e) = absurd (omega (arith, ap (λ (a : Proposal). a.number) (sym e ∙ d)))
  done_spelled {p} {after} d (ProposeSays.proposed t i rs I l L r S e) =
      let g = sym e ∙ d in
      let s = ap (λ (a : Proposal). a.given.start) g in
      let c = ap (λ (a : Proposal). a.given.count) g in
      let w = ap (λ (a : Proposal). a.lent) g in (
        t,
        I,
        l,
        subst (Spelled t text p.start end)
            (sym (take_at rs (drop (end - i) before) p.count (S.each ∙ c)) ∙ ap (take p.count) w) (subst (λ (x : ℕ). Spelled t text x end rs) s S),
      )

  -- WHAT THE PROPOSER GIVES, THE CHECK SAYS YES TO
  pub proposal_right : {p : Proposed} {after : List ℕ} → ProposeSays words text end before (proposal (Ok p) after)
      → (r : Result Bool Refusal) → CheckSays words text p.start end (take p.count after) (judgement r) → r ≡ Ok true
  proposal_right P r C = let g = done_spelled refl P in one_judged r (Ok true) C (right g.0 g.1 g.2 g.3 refl)

-- ---- "A PROPOSAL THAT GETS YES EXISTS EXACTLY FOR THE ENDS OF DOCUMENT 01": of an image, for every text that is not too long, and every place
module _ {words : List ℕ} (t : Tree) (I : ImageOf words t) (text : List ℕ) (short : length text ≤ 65535) (place : ℕ) where
  yes_spelled : {start : ℕ} {states : List ℕ} {a : Judgement} → a.given ≡ true → CheckSays words text start place states a → Spelled t text start place states
  yes_spelled y (not_an_image f e) = absurd (f t I)
  yes_spelled y (text_too_long u J l e) = absurd (omega arith)
  yes_spelled {start} {states} y (right u J l S e) = subst (λ (v : Tree). Spelled v text start place states) (one_image words u t J I) S
  yes_spelled y (wrong u J l f e) = absurd (subst T (sym y ∙ ap (λ (a : Judgement). a.given) e) tt)

  pub yes_end : ((start : ℕ) × (states : List ℕ) × CheckSays words text start place states (judgement (Ok true))) ↔ End t text place
  yes_end = (
    λ (i, rs, C). (spelled_end t I.is_rule text place).0 (i, rs, yes_spelled refl C),
    λ e. let s = (spelled_end t I.is_rule text place).1 e in (s.0, s.1, right t I short s.2 refl),
  )
