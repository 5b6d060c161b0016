use Rattle.std.proofs.Common.{ℕ, List, Bor, ◌∙◌}
use Rattle.std.specs.Str.{bytes_eq}
use Rattle.md_rules.specs.Names.{has_bytes}
use Rattle.md_rules.proofs.Keys.{or_swap}
use Rattle.md_rules.proofs.names.with_name.Goals as goal

pub returns : goal.returns
returns c =
    λ other. let q : Bor (List ℕ) = record { ref_ptr = (0, 0); now = other } in
    c.in_ok-insert.ensures.updates.0 q ∙ or_swap (bytes_eq c.args.name.now other) (has_bytes c.args.names other)
