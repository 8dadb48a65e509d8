use Rattle.std.proofs.Common.{◌≡◌, ◌+◌, [], None, get_or, sym, subst, zero-add}
use Rattle.pgq_base.specs.Instances.{rows_at}
use Rattle.graph_ast.specs.Lookups.{table_at}
use Rattle.graph_ast.specs.Fits.{AreRowsOf}
use Rattle.csv_tables.specs.Constraints.{constraints_of, rows_fault}
use Rattle.csv_tables.proofs.FitLemmas.{get_or_any, holds_from, holds_to, tables_from, tables_to}
use Rattle.csv_tables.proofs.laws.checked_instances_fit.Goals as goal

pub returns : goal.returns
returns c catalog instance typed = (
  λ none. record {
    tables = typed.tables;
    rows = λ place there.
        let table = table_at catalog place in
        let here : 0 + place ≡ place = zero-add place in
        let holds = holds_from instance table (rows_at instance place)
        (subst (λ n. rows_fault (constraints_of instance table) [] (rows_at instance n) ≡ None) here (tables_from instance 0 catalog.tables none place _ there)) in
        record { typed = typed.rows place there; keys = holds.keys; references = holds.references };
  },
  λ fits. tables_to instance 0 catalog.tables (λ place d there.
      let table = get_or catalog.tables place d in
      let here : place ≡ 0 + place = sym (zero-add place) in
      let same : table_at catalog place ≡ table = get_or_any catalog.tables place _ d there in
      let are = subst (λ t. AreRowsOf instance t (rows_at instance place)) same (fits.rows place there) in
      subst (λ n. rows_fault (constraints_of instance table) [] (rows_at instance n) ≡ None) here
      (holds_to instance table (rows_at instance place) (record { keys = are.keys; references = are.references }))),
)
