use Rattle.shortest_lowering.proofs.SelectedMeans.{selected_block_is, selected_is}
use Rattle.shortest_lowering.proofs.means.selected_law.Goals as goal

pub returns-clause-block : goal.returns-clause-block
returns-clause-block c = λ catalog query instance fitting ok combined combines block h. selected_block_is catalog instance query fitting ok combined combines block h

pub returns-clause-answer : goal.returns-clause-answer
returns-clause-answer c = λ catalog query instance fitting ok combined combines. selected_is catalog instance query fitting ok combined combines
