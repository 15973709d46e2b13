-- `store`: each answer says what `Laws.Answers` proves of it; a tape told to be a tree's is within the limits that the callees ask for.
use mathlib.Core.Path.{◌≡◌, ◌∙◌, ap, subst, sym}
use Prim.Native.Nat.{ℕ}
use Rattle.std.specs.Prelude.{Err, Option, Result}
use Rattle.std.specs.Option.{ok_or}
use Rattle.std.proofs.lemmas.Result.{err_from_is_err_and}
use Rattle.answers.specs.Answers.{answered}
use Rattle.answers.specs.declared.Refusal.{Refusal}
use Rattle.answers.specs.declared.Refusal.TheVariants.{TooDeep}
use Rattle.image.specs.Says.{StoreSays}
use borrow.Author.Rules.{rules}
use native.Mathlib.Omega.{arith}
use Rattle.image_sections.specs.declared.Sections.{Sections}
use Rattle.image_sections.proofs.Laws.Within.{within_limits}
use Rattle.image.proofs.Laws.Answers.{few, says_no_room, says_no_tree, says_stored, shallow, taped}
use Rattle.image.proofs.store.Goals as goal

pub returns-in_err-depth : goal.returns-in_err-depth
returns-in_err-depth c =
    let t = c.tape_of-tape in
    let told = taped c.args.tokens t.result t.ensures.long t.ensures.kinds (search rules) c.lay_out.ensures.told in
    let p = err_from_is_err_and c.from_residual.result c.from_residual.ensures.1 in
    let q = c.in_err-depth.ensures in
    let e : c.from_residual.result ≡ Err TooDeep = p.1 ∙ ap (λ (x : Refusal). Err x) p.2 ∙ q.value ∙ ap (λ (o : Option ℕ). ok_or o TooDeep) q.ok_part in
    subst (λ (r : Result ℕ Refusal). StoreSays c.args.tokens c.args.length c.args.words.now (answered r c.args.words.now)) (sym e)
    (says_no_tree told c.args.words.now q.ok_part)

pub overflow_add-length : goal.overflow_add-length
overflow_add-length c = omega (arith, few c.args.tokens c.args.length c.requires)

pub sections_of-sections-requires : goal.sections_of-sections-requires
sections_of-sections-requires c =
    (few c.args.tokens c.args.length c.requires, shallow c.lay_out.ensures.told c.in_ok-depth.ensures.ok_part)

pub returns-then-words-sections : goal.returns-then-words-sections
returns-then-words-sections c =
    let t = c.tape_of-tape in
    let told = taped c.args.tokens t.result t.ensures.long t.ensures.kinds (search rules) c.lay_out.ensures.told in
    says_no_room told c.in_ok-depth.ensures.ok_part c.args.words.now c.sections_of-sections.ensures c.if-words-sections.true

pub put_image-requires-clause-limits : goal.put_image-requires-clause-limits
put_image-requires-clause-limits c =
    let places = c.sections_of-sections.ensures in (
      within_limits places (few c.args.tokens c.args.length c.requires) (shallow c.lay_out.ensures.told c.in_ok-depth.ensures.ok_part),
      ap (λ (p : Sections). p.letters) places,
      omega (arith, c.if-words-sections.false),
      omega (arith, c.tape_of-tape.ensures.long, ap (λ (p : Sections). p.states) places),
    )

pub returns : goal.returns
returns c =
    let t = c.tape_of-tape in
    let told = taped c.args.tokens t.result t.ensures.long t.ensures.kinds (search rules) c.lay_out.ensures.told in
    says_stored told c.in_ok-depth.ensures.ok_part c.args.words.now c.sections_of-sections.ensures (omega (arith, c.if-words-sections.false)) c.put_image.ensures
