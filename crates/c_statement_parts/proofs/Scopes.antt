-- A scope that is left.
use Rattle.std.proofs.Common.{◌≡◌, ℕ, take, ap, ◌∙◌}
use Rattle.c_names.specs.Known.{entries_of}
use Rattle.c_scopes.specs.declared.state.State.{State}
use Rattle.c_scopes.specs.Here.{here_of}
use Rattle.c_scopes.proofs.Leaving as leaving
use Rattle.c_statement_parts.specs.Left.{left}

-- names that are left behind a scope, of which those in front stay
pub front : (start : ℕ) (state out : State) → out.names.entries.items ≡ take start state.names.entries.items → (out.locals ≡ state.locals) × (out.labels ≡ state.labels)
    → here_of out ≡ left start (here_of state) (here_of state)
front start state out names rest =
    let p : entries_of out.names.entries.items ≡ take start (entries_of state.names.entries.items) = ap entries_of names ∙ leaving.take_entries start state.names.entries.items in
    let q : out.locals ≡ state.locals = rest.0 in
    let r : out.labels ≡ state.labels = rest.1 in
    λ i. record { names = p i; locals = q i; labels = r i }
