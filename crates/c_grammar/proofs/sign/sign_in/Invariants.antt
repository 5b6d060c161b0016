use Rattle.std.proofs.Common.{◌≡◌, drop}
use Rattle.std.specs.Str.{bytes_eq}
use Rattle.c_grammar.specs.Words.{sign_by}
use Rattle.c_grammar.proofs.sign.sign_in.Given as goal

abbrev pub invariant-loop-spelling : goal.invariant-loop-spelling
invariant-loop-spelling l = sign_by (λ entry. bytes_eq entry.0.now l.text) (λ entry. entry.1) (drop l.spelling-index l.table) ≡ sign_by (λ entry. bytes_eq entry.0.now l.text) (λ entry. entry.1) l.table
