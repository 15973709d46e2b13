-- ONE LAW FOR ALL TABLES: if whatever a table says of an input settles what is asked of the answer, two answers to that input agree in it. For each
-- operation its case table (`build_is`, `match_is`, ..) shows that every row is the answer computed.
use mathlib.Core.Path.{◌≡◌, sym, ◌∙◌}

pub one : {A B : Type 0} {Says : A → Type 0} (asked : A → B) {computed : B} → ((a : A) → Says a → asked a ≡ computed)
    → (a b : A) → Says a → Says b → asked a ≡ asked b
one asked is a b p q = is a p ∙ sym (is b q)

-- the whole answer
pub one_answer : {A : Type 0} {Says : A → Type 0} {computed : A} → ((a : A) → Says a → a ≡ computed) → (a b : A) → Says a → Says b → a ≡ b
one_answer is a b p q = one (λ x. x) is a b p q
