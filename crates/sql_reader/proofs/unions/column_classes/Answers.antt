use Rattle.std.proofs.Common.{◌≡◌, ◌∙◌, map, sym, ap}
use Rattle.sql_algebra.specs.declared.text.ColumnText.{ColumnText}
use Rattle.first_faults.proofs.Steps.{append_nothing}
use Rattle.sql_reader.specs.Levels.{reach_of}
use Rattle.sql_reader.specs.Reaches.{items_placed}
use Rattle.sql_reader.specs.Types.{class_of_value}
use Rattle.sql_reader.specs.Phases.{column_classes}
use Rattle.sql_reader.proofs.MadeSelects.{lifted}
use Rattle.sql_reader.proofs.unions.column_classes.Goals as goal

pub returns : goal.returns
returns c =
    lifted _ (λ classes. classes ≡ column_classes c.args.tables.now c.args.select.now)
    (λ classes h. h ∙ ap (map (λ (k : ColumnText). class_of_value (reach_of c.alone-scope.result) k.value)) c.as_slice-2.ensures
    ∙ ap (λ r. map (λ (k : ColumnText). class_of_value r k.value) c.args.select.now.columns)
    (c.alone-scope.ensures ∙ c.in_ok-items.ensures ∙ ap (items_placed c.args.tables.now) c.as_slice.ensures
    ∙ sym (append_nothing (items_placed c.args.tables.now c.args.select.now.from))))
    c.classes_of.result c.classes_of.ensures
