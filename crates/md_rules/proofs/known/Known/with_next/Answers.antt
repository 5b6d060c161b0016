use Rattle.std.proofs.Common.{◌≡◌, ◌++◌, ◌∷◌, [], ◌||◌, take, length, get_or, ◌+◌, sym, ap, ◌∙◌}
use Rattle.md_text.specs.Pieces.{has_name}
use Rattle.md_text.specs.Declarations.{class_names, mode_names}
use Rattle.md_forms.specs.Seen.{declaration_of, declarations_of}
use Rattle.md_rules.specs.Names.{register_key, register_keys, flag_key, flag_keys, names_class, names_mode}
use Rattle.md_rules.proofs.Keys.{one_more, register_keys-push, flag_keys-push, class_names-push, mode_names-push}
use Rattle.md_rules.proofs.known.Known.with_next.Goals as goal

pub invariant_of-result : goal.invariant_of-result
invariant_of-result c =
    let all = c.args.all.now in
    let before = c.args.self.before.now in
    let d = c.index-all-before.result in
    let said = declaration_of (get_or all (length before) d) in
    let e : declarations_of (take (length before + 1) all) ≡ declarations_of before ++ said ∷ [] =
    one_more all before d c.requires.front c.requires.more in
    record {
      has_registers =
          c.in_ok-registers.ensures ∙ ap (λ x. x ++ register_key said.form) c.args.self.has_registers
          ∙ sym (ap register_keys e ∙ register_keys-push (declarations_of before) said);
      has_flags =
          c.in_ok-flags.ensures ∙ ap (λ x. x ++ flag_key said.form) c.args.self.has_flags
          ∙ sym (ap flag_keys e ∙ flag_keys-push (declarations_of before) said);
      has_classes = λ name.
          c.in_ok-classes.ensures name ∙ ap (λ b. b || names_class said.form name) (c.args.self.has_classes name)
          ∙ sym (ap (λ ds. has_name (class_names ds) name) e ∙ class_names-push (declarations_of before) said name);
      has_modes = λ name.
          c.in_ok-modes.ensures name ∙ ap (λ b. b || names_mode said.form name) (c.args.self.has_modes name)
          ∙ sym (ap (λ ds. has_name (mode_names ds) name) e ∙ mode_names-push (declarations_of before) said name);
    }
