use Rattle.std.proofs.Common.{rules, ◌≡◌, ◌∙◌, ℕ, ◌+◌, ◌<◌, List, [], ◌∷◌, ◌++◌, length, get_or, drop, sym, ap, Option, is_some}
use Rattle.std.proofs.lemmas.List.{drop_more}
use Rattle.pgq_base.specs.declared.code.Code.TheVariants.{DuplicateColumnName}
use Rattle.sql_algebra.specs.declared.text.ColumnText.{ColumnText}
use Rattle.sql_algebra.specs.Soundness.{is_in}
use Rattle.first_faults.specs.declared.faults.Fault.{Fault}
use Rattle.first_faults.specs.Faults.{first_of, when}
use Rattle.first_faults.specs.Places.{first_place}
use Rattle.first_faults.proofs.Steps.{first_of_append}
use Rattle.sql_reader.specs.Names.{repeated_columns}
use Rattle.sql_reader.proofs.Lookups.{among_places}
use Rattle.sql_reader.proofs.names.repeated_columns.Goals as goal

step : (seen : List (List ℕ)) (first : Option Fault) (columns : List ColumnText) (i : ℕ) (c : ColumnText) → i < length columns → c ≡ get_or columns i c
    → first_of first (repeated_columns seen (drop i columns)) ≡ first_of (first_of first (when (is_in c.name.name seen) DuplicateColumnName c.name.span))
    (repeated_columns (seen ++ c.name.name ∷ []) (drop (i + 1) columns))
step seen first columns i c within is =
    ap (λ l. first_of first (repeated_columns seen l)) (drop_more columns i c within)
    ∙ ap (λ x. first_of first (repeated_columns seen (x ∷ drop (i + 1) columns))) (sym is)
    ∙ first_of_append first (when (is_in c.name.name seen) DuplicateColumnName c.name.span) (repeated_columns (seen ++ c.name.name ∷ []) (drop (i + 1) columns))

pub loop-column-preserved : goal.loop-column-preserved
loop-column-preserved c =
    let i : ℕ = c.loop-column.column-index in
    let x : ColumnText = c.column-item.result in
    let columns : List ColumnText = c.args.columns.now in
    let within : c.loop-column.column-index < length c.args.columns.now = search rules in
    let known : c.is_some-known.result ≡ is_in x.name.name c.loop-column.seen =
    c.is_some-known.ensures ∙ ap is_some (c.place.ensures ∙ ap (λ n. first_place n c.loop-column.seen) c.as_bytes.ensures.value) ∙ among_places x.name.name c.loop-column.seen in
    ap (λ s. first_of c.note-found.result (repeated_columns s (drop (i + 1) columns)))
    (c.in_ok-seen.ensures ∙ ap (λ n. c.loop-column.seen ++ n ∷ []) c.as_bytes-in-loop-column.ensures.value)
    ∙ ap (λ f. first_of f (repeated_columns (c.loop-column.seen ++ x.name.name ∷ []) (drop (i + 1) columns)))
    (c.note-found.ensures ∙ ap (λ b. first_of c.loop-column.found (when b DuplicateColumnName x.name.span)) known)
    ∙ sym (step c.loop-column.seen c.loop-column.found columns i x within c.column-item.is)
    ∙ c.loop-column.invariant
