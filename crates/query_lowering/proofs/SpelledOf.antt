-- The expressions of a query that is to be written as SQL have texts, if the names of its columns and those of the catalog are names.
use Rattle.std.proofs.Common.{◌≡◌, true}
use Rattle.multisets.specs.Bags.{IsIn}
use Rattle.graph_ast.specs.declared.catalog.Catalog.{Catalog}
use Rattle.graph_ast.specs.declared.catalog.Table.{Table}
use Rattle.graph_ast.specs.declared.catalog.Column.{Column}
use Rattle.graph_ast.specs.declared.checked.CheckedQuery.{CheckedQuery}
use Rattle.graph_ast.specs.declared.checked.Output.{Output}
use Rattle.graph_meaning.specs.Choices.{Condition}
use Rattle.graph_meaning.proofs.Members.{both_parts, each_of}
use Rattle.pattern_check.specs.Lowerable.{conditions_of}
use Rattle.sql_algebra.specs.Printable.{is_name}
use Rattle.path_lowering.specs.SoundTexts.{IsSpelled, HasNames, IsSpelledQuery}
use Rattle.query_lowering.specs.Names.{columns_are_named, is_named_table, tables_are_named, outputs_are_named}
use Rattle.query_lowering.specs.Translatable.{IsTranslatable}
use Rattle.query_lowering.proofs.Conditions.{of_member, choice_condition, last_condition}

pub has_names : (catalog : Catalog) → tables_are_named catalog.tables ≡ true → HasNames catalog
has_names catalog named =
    let own : (table : Table) → IsIn table catalog.tables → (is_name table.name ≡ true) × (columns_are_named table.columns ≡ true) =
    λ table h. both_parts (is_name table.name) (columns_are_named table.columns) (each_of is_named_table catalog.tables named table h) in record {
      tables = λ table h. (own table h).0;
      columns = λ table h column k. each_of (λ (c : Column). is_name c.name) table.columns (own table h).1 column k;
    }

pub spelled_query : (catalog : Catalog) (query : CheckedQuery) → IsTranslatable catalog query → outputs_are_named query.columns ≡ true → IsSpelledQuery query
spelled_query catalog query ok named =
    let spelled : (c : Condition) → IsIn c (conditions_of query) → IsSpelled c = of_member IsSpelled (conditions_of query) ok.conditions in record {
      conditions = λ path there choice chosen scoped h. spelled scoped.condition (choice_condition query path there choice scoped h);
      condition = λ c e. spelled c (last_condition query c e);
      some = ok.some;
      columns = of_member (λ (output : Output). IsSpelled output.value) query.columns ok.columns;
      names = each_of (λ (output : Output). is_name output.name) query.columns named;
    }
