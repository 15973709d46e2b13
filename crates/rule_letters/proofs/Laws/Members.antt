-- THE LOOP OVER A CLASS'S MEMBERS: what the model reads from the class's first member on is what it reads from the member at hand on, with the
-- bytes of the members before it. The model counts down a bound on their number, which stays above the number of bytes that are left.
use mathlib.Core.Path.{◌≡◌, refl, sym, ap, ◌∙◌}
use mathlib.Core.List.{List}
use Prim.Native.Nat.{ℕ, zero, suc, ◌+◌, ◌≤◌, ◌<◌}
use native.Mathlib.Omega.{arith}
use lib.Bits.{bit_or}
use lib.ListN.{drop, get_or, length, length-drop}
use Rattle.model.specs.Bytes.{byte}
use Rattle.model.specs.Models.Reader.{bad, bind, case, got, past, Read, read_member, read_members}
use Rattle.model.proofs.Laws.Bool.{unequal}
use Rattle.rule_bytes.specs.Places.{Stopped, Took}
use Rattle.rule_letters.specs.Classes.{after_bracket}
use Rattle.rule_bytes.proofs.Laws.Places.{inside, stays, takes, took_as}
use Rattle.rule_bytes.proofs.Laws.Progress.{further}
use Rattle.rule_letters.proofs.Laws.Progress.{member_falls}

-- one member d, with c for those before it: `]`, or more members
abbrev after_member : ℕ → ℕ → ℕ → List ℕ → Read ℕ
after_member n c d r = case (past (byte "]") r) (λ x s. got (bit_or c d) s) (read_members n (bit_or c d) r)

-- the loop at place p, after members that make c
pub record Members (rule : List ℕ) (at c p : ℕ) : Type 0 where
  pub within : p ≤ length rule
  pub left : ℕ
  pub enough : length rule ≤ left + p
  pub same : after_bracket (drop at rule) ≡ read_members (suc left) c (drop p rule)

module _ {rule : List ℕ} {at : ℕ} where
  pub no_members : {c : ℕ} → at ≤ length rule → c ≡ 0 → Members rule at c at
  no_members h e = record {
    within = h;
    left = length (drop at rule);
    enough = omega (arith, length-drop at rule);
    same = ap (λ (c : ℕ). read_members (suc (length (drop at rule))) c (drop at rule)) (sym e);
  }

  module _ {c p : ℕ} (M : Members rule at c p) where
    pub members_stop : {q : ℕ} → Stopped rule (read_member (drop p rule)) q → Stopped rule (after_bracket (drop at rule)) q
    members_stop h = record { reads = M.same ∙ ap (λ m. bind m (after_member M.left c)) h.reads; inside = h.inside }

    module _ {d q : ℕ} (t : Took rule (read_member (drop p rule)) d q) where
      pub members_on : p < q
      members_on = further rule t p (member_falls (drop p rule))

      -- the member is read, and what follows it decides
      then : after_bracket (drop at rule) ≡ after_member M.left c d (drop q rule)
      then = M.same ∙ ap (λ m. bind m (after_member M.left c)) t.reads

      module _ {x z : ℕ} (e : x ≡ get_or rule q 0) (b : z ≡ bit_or c d) where
        pub members_closed : x ≡ byte "]" → Took rule (after_bracket (drop at rule)) z (q + 1)
        members_closed y =
            let k = took_as b (takes rule q e (after_member M.left c d) (inside rule q e (λ n. omega arith)) (λ xs. rw y)) in
            record { reads = then ∙ k.reads; inside = k.inside }

        pub members_more : (x ≡ byte "]" → ⊥) → Members rule at z q
        members_more n = go M.left M.enough then
          where
            unclosed : past (byte "]") (drop q rule) ≡ bad (drop q rule)
            unclosed = stays rule q e (past (byte "]")) t.inside bad refl (λ xs. rw (unequal x (byte "]") n))

            go : (n : ℕ) → length rule ≤ n + p → after_bracket (drop at rule) ≡ after_member n c d (drop q rule) → Members rule at z q
            go zero h r = absurd (omega (arith, members_on, t.inside))
            go (suc n) h r = record {
              within = t.inside;
              left = n;
              enough = omega (arith, members_on);
              same = r ∙ ap (λ m. case m (λ y s. got (bit_or c d) s) (read_members (suc n) (bit_or c d) (drop q rule))) unclosed
                  ∙ ap (λ (v : ℕ). read_members (suc n) v (drop q rule)) (sym b);
            }
