-- The tokens of the query text spell the tree: the phrase of the grammar that has them.
use Rattle.std.proofs.Common.{◌≡◌, refl, ℕ, ◌≤◌, Bool, true, ◌&&◌, List, [], ◌∷◌, inl, inr, None, Some}
use Rattle.std.specs.Prelude.{slice_index_or, nat_le}
use Rattle.std.proofs.lemmas.Bool.{leb-true}
use Rattle.sql_lexer.specs.declared.token.Token.{Token}
use Rattle.sql_lexer.specs.declared.token.Kind.TheVariants.{Symbol}
use Rattle.sql_lexer.specs.Tokens.{token}
use Rattle.graph_meaning.proofs.Members.{both_parts}
use Rattle.token_grammar.specs.Rules.{within, on}
use Rattle.token_grammar.specs.Texts.{behind, Stays}
use Rattle.token_marks.specs.Marks.{mark, bare_mark}
use Rattle.token_reading.specs.Tokens.{class}
use Rattle.condition_grammar.specs.Conditions as g
use Rattle.pattern_parser.specs.Outcomes.{SpellsQuery, opens, closes, IsShallow}
use Rattle.pattern_parser.specs.Patterns.{path, union, sequence, factor, part_or_vertex, edge, edge_end, quantifier, bounds, prefix, all_prefix, mode_and_noun}
use Rattle.pattern_parser.specs.Tests.{test_from, after_name, more_members}
use Rattle.pattern_parser.specs.Queries.{query, table, query_end, item, first_member, item_rest, alias, filler, query_text}
use Rattle.sample_reading.specs.SampleTree.{sample_tokens, sample_tree}

-- the token at a place
abbrev t : ℕ → Token
t place = slice_index_or sample_tokens place (token 0 0 (Symbol 0))

unfoldable phrase : (query_text 2).Phrase
unfolding sample_tokens within class mark bare_mark query table query_end path prefix all_prefix mode_and_noun union sequence factor part_or_vertex edge edge_end quantifier
    bounds filler item first_member item_rest alias test_from after_name more_members g.dotted
phrase = (
  (t 0, refl),
  (
    (t 1, refl),
    (
      (t 2, refl),
      (
        (t 3, refl),
        (
          (
            (t 4, refl),
            (
              (
                (t 5, refl),
                (
                  (t 6, refl),
                  (
                    (
                      (
                        None,
                        (
                          Some (inr (inl ((t 7, refl), ((t 8, refl), (None, None))))),
                          (
                            (
                              inl ((t 9, refl), inr ((Some (t 10, refl), (None, None)), (t 11, refl))),
                              inr (
                                inl ((t 12, refl), Some (inr (((t 13, refl), ((Some (t 14, refl), (None, None)), (t 15, refl))), ((t 16, refl), Some (t 17, refl))))),
                                Some (inr (inr (inr ((t 18, refl), (inl ((t 19, refl), Some ((t 20, refl), Some (t 21, refl))), (t 22, refl)))))),
                              )
                                  ∷ inl ((t 23, refl), inr ((Some (t 24, refl), (None, None)), (t 25, refl)))
                                  ∷ [],
                            ),
                            [],
                          ),
                        ),
                      ),
                      [],
                    ),
                    (
                      None,
                      (
                        (t 26, refl),
                        (
                          (t 27, refl),
                          (
                            (
                              inr (inr (inr (inr (inl ((t 28, refl), inl (((t 29, refl), (t 30, refl)), None)))), (([], []), Some ((t 31, refl), (t 32, refl))))),
                              (
                                (t 33, refl),
                                inr (inr (inr (inr (inl ((t 34, refl), inl (((t 35, refl), (t 36, refl)), None)))), (([], []), Some ((t 37, refl), (t 38, refl))))),
                              ) ∷ [],
                            ),
                            (t 39, refl),
                          ),
                        ),
                      ),
                    ),
                  ),
                ),
              ),
              (t 40, refl),
            ),
          ),
          (None, None),
        ),
      ),
    ),
  ),
)

tokens_are : sample_tokens ≡ (query_text 2).tokens phrase
unfolding sample_tokens phrase within class mark bare_mark query table query_end path prefix all_prefix mode_and_noun union sequence factor part_or_vertex edge edge_end quantifier
    bounds filler item first_member item_rest alias test_from after_name more_members g.dotted
tokens_are = refl

value_is : (query_text 2).value phrase ≡ sample_tree
unfolding sample_tokens sample_tree phrase within
    class mark bare_mark query table query_end path prefix all_prefix mode_and_noun union sequence factor part_or_vertex edge edge_end quantifier
    bounds filler item first_member item_rest alias test_from after_name more_members g.dotted
value_is = refl

pub tree_spelled : SpellsQuery sample_tokens sample_tree
tree_spelled = (2, (phrase, tokens_are, value_is))

-- ---- at most two brackets are open, by computing

abbrev is_low : ℕ → List Token → Bool
is_low n [] = nat_le n 64
is_low n (token ∷ more) = nat_le n 64 && is_low (behind (on class opens) (on class closes) n token) more

stays : (n : ℕ) (all : List Token) → is_low n all ≡ true → Stays (on class opens) (on class closes) 64 n all
stays n [] h = leb-true n 64 h
stays n (token ∷ more) h =
    let next = behind (on class opens) (on class closes) n token in
    let p = both_parts (nat_le n 64) (is_low next more) h in
    (leb-true n 64 p.0, stays next more p.1)

pub shallow : IsShallow sample_tokens
unfolding sample_tokens class mark bare_mark
shallow = stays 0 sample_tokens refl
