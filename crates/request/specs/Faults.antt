-- What is wrong with the program's words (docs/PROGRAM.md).
use Rattle.std.specs.Prelude.{ℕ, Bool, cond, not, ◌&&◌, ◌||◌, List, [], ◌∷◌, eqb, ltb, Option, Some, None}
use Rattle.cases.specs.Input.{same_word}
use Rattle.request.specs.declared.ask.Role.{Role}
use Rattle.request.specs.declared.ask.Role.TheVariants.{Out, Table, Ids, OutName, TableName, IdsName, Graph, Check, Unknown, Empty}
use Rattle.request.specs.declared.ask.Fault.{Fault}
use Rattle.request.specs.declared.ask.Fault.TheVariants.{EmptyWord, UnknownOption, TwoGraphs, GivenTwice, Incomplete, SameFile, SharedInput}
use Rattle.request.specs.Words.{first_word, count_words, is_standard}

module _ (ws : List (List ℕ)) where
  abbrev pub first : Role → List ℕ
  first role = first_word role None ws

  abbrev pub many : Role → ℕ
  many role = count_words role None ws

  abbrev pub given_twice : Bool
  given_twice = ltb 1 (many Out) || ltb 1 (many Table) || ltb 1 (many Ids) || ltb 1 (many Check)

  -- an option without its word
  abbrev pub incomplete : Bool
  incomplete = ltb (many Out) (many OutName) || ltb (many Table) (many TableName) || ltb (many Ids) (many IdsName)

  abbrev pub same_file : Bool
  same_file = not (is_standard (first Out)) && same_word (first Out) (first Table)

  abbrev pub shared_input : Bool
  shared_input = same_word (first Ids) (45 ∷ []) && is_standard (first Graph)

  -- the first of: an empty word, an unknown option, two graphs, an option twice, an option without its word, one file for
  -- both results, one input for both lists
  abbrev pub fault_of : Option Fault
  fault_of =
      cond (not (eqb (many Empty) 0)) (Some EmptyWord)
      (cond (not (eqb (many Unknown) 0)) (Some UnknownOption)
      (cond (ltb 1 (many Graph)) (Some TwoGraphs)
      (cond given_twice (Some GivenTwice)
      (cond incomplete (Some Incomplete)
      (cond same_file (Some SameFile)
      (cond shared_input (Some SharedInput) None))))))
