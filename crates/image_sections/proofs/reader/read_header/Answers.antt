-- `read_header`: the numbers that the shape gives are the words' own, so the tests that follow are those of `header_fits`.
use Rattle.image_sections.specs.Header.{shape_fits}
use Rattle.image_sections.proofs.Laws.Header.{placed_shape, told}
use Rattle.image_sections.proofs.Laws.Within.{within}
use Rattle.image_sections.proofs.reader.read_header.Goals as goal

pub counts_fit-requires : goal.counts_fit-requires
counts_fit-requires c =
    let ws = c.args.words.now in
    let K = told (shape_fits ws) ws c.read_shape.ensures c.in_ok-sections.was in
    within (placed_shape K c.if-words-sections.false)
