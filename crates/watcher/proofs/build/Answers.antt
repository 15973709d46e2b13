-- What reading a rule answers is a row of the table, or a tree whose tokens go on to be stored.
use mathlib.Core.Path.{refl}
use Rattle.watcher.proofs.Laws.Build.{of_rule, passed_on, read_says, some_states, tree_built}
use Rattle.watcher.proofs.build.Goals as goal

pub overflow_sub-tree : goal.overflow_sub-tree
overflow_sub-tree c = let a = c.args in some_states a.rule.now a.image.now (read_says a.rule.now a.image.now c.in-Ok.ensures).1

pub store-requires : goal.store-requires
store-requires c = let a = c.args in of_rule a.rule.now a.image.now (read_says a.rule.now a.image.now c.in-Ok.ensures).1

pub returns-in-Ok : goal.returns-in-Ok
returns-in-Ok c = let a = c.args in tree_built a.rule.now a.image.now (read_says a.rule.now a.image.now c.in-Ok.ensures).1 c.store.ensures

pub returns-in-Err : goal.returns-in-Err
returns-in-Err c = passed_on c.args.rule.now c.args.image.now c.in-Err.ensures refl refl
