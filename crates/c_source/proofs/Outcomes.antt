-- A text has at most one tree or reason.
use Rattle.std.proofs.Common.{◌≡◌, ℕ, List, Result, Ok, Err, IfErr, ap, subst}
use Rattle.vp_io.specs.declared.answers.Reason.{Reason}
use Rattle.c_tree.specs.declared.fault.CFault.{CFault}
use Rattle.c_tree.specs.declared.fault.CFault.TheVariants.{NoMemory, Bad}
use Rattle.c_tree.specs.declared.token.Token.{Token}
use Rattle.c_tree.specs.declared.syntax.Syntax.{Syntax}
use Rattle.c_lexer.specs.Lexing.{AreTokens}
use Rattle.c_lexer.specs.Outcome as lexer
use Rattle.c_grammar.specs.Words.{lexemes}
use Rattle.c_grammar.specs.Spelling.{Spelled}
use Rattle.c_parser.specs.Answers as parser
use Rattle.c_parser.specs.Law.{Unique, OneRefusal, NoTreeIsRefused}
use Rattle.c_source.specs.Source.{SpellsTree, IsRefused, no_tokens, no_tree, Refuses, OneOutcome}

abbrev listed : List Token → Result (List Token) Reason
listed ts = Ok ts

abbrev refused : Reason → Result (List Token) Reason
refused r = Err r

module _ (lexed : lexer.OneOutcome) (unique : Unique) (one : OneRefusal) (never_both : NoTreeIsRefused) where
  same_tokens : (text : List ℕ) (ts us : List Token) → AreTokens text ts → AreTokens text us → ts ≡ us
  same_tokens text ts us a b = by_value (lexed text (listed ts) (listed us) a b)
    where
      by_value : listed ts ≡ listed us → ts ≡ us
      by_value e = cc

  no_reason : (text : List ℕ) (ts : List Token) (r : Reason) → AreTokens text ts → lexer.IsReason text r → ⊥
  no_reason text ts r a b = by_value (lexed text (listed ts) (refused r) a b)
    where
      by_value : listed ts ≡ refused r → ⊥
      by_value e = absurd cc

  same_reason : (text : List ℕ) (r s : Reason) → lexer.IsReason text r → lexer.IsReason text s → r ≡ s
  same_reason text r s a b = by_value (lexed text (refused r) (refused s) a b)
    where
      by_value : refused r ≡ refused s → r ≡ s
      by_value e = cc

  same_tree : (text : List ℕ) (t u : Syntax) → SpellsTree text t → SpellsTree text u → t ≡ u
  same_tree text t u a b = unique (lexemes a.tokens) t u a.spelled (subst (λ ts. Spelled (lexemes ts) u) (same_tokens text b.tokens a.tokens b.lexed a.lexed) b.spelled)

  not_both : (text : List ℕ) (t : Syntax) (r : Reason) → SpellsTree text t → IsRefused text r → ⊥
  not_both text t r a (no_tokens i) = no_reason text a.tokens r a.lexed i
  not_both text t r a (no_tree ts l b) = never_both (lexemes ts) t r (subst (λ us. Spelled (lexemes us) t) (same_tokens text a.tokens ts a.lexed l) a.spelled) b

  same_refusal : (text : List ℕ) (r s : Reason) → IsRefused text r → IsRefused text s → r ≡ s
  same_refusal text r s (no_tokens i) (no_tokens j) = same_reason text r s i j
  same_refusal text r s (no_tokens i) (no_tree ts l b) = absurd (no_reason text ts r l i)
  same_refusal text r s (no_tree ts l b) (no_tokens j) = absurd (no_reason text ts s l j)
  same_refusal text r s (no_tree ts l b) (no_tree us k c) = one (lexemes ts) r s b (subst (λ vs. parser.Breaks (lexemes vs) s) (same_tokens text us ts k l) c)

  pub one_outcome : OneOutcome
  one_outcome text (Ok t) (Ok u) a b = ap (λ v. Ok v) (same_tree text t u a b)
  one_outcome text (Ok t) (Err r) a b = absurd (not_both text t r a b)
  one_outcome text (Err r) (Ok t) a b = absurd (not_both text t r b a)
  one_outcome text (Err r) (Err s) a b = ap (λ v. Err v) (same_refusal text r s a b)

-- the parser's refusal is one of the text
of_parser : (text : List ℕ) (tokens : List Token) (fault : CFault) → AreTokens text tokens → parser.Refuses (lexemes tokens) fault → Refuses text fault
of_parser text tokens NoMemory l r = tt
of_parser text tokens (Bad reason) l r = no_tree tokens l r

pub refused_by_parser : (text : List ℕ) (tokens : List Token) (answer : Result Syntax CFault) → AreTokens text tokens → IfErr answer (parser.Refuses (lexemes tokens)) → IfErr answer (Refuses text)
refused_by_parser text tokens (Ok tree) l r = tt
refused_by_parser text tokens (Err fault) l r = of_parser text tokens fault l r
