use Rattle.std.proofs.Common.{ap, refl, ◌∙◌}
use Rattle.rtl_machine.specs.Loading.{memory_with_data}
use Rattle.rtl_machine.proofs.Loaded.{loaded, ready}
use Rattle.rtl_machine.proofs.machine.Machine.load.Goals as goal

pub invariant_of-result : goal.invariant_of-result
invariant_of-result g c = record { code = c.in_ok-code.ensures.ready; ready = ready g.W.Word.BITS _ refl refl refl c.new.ensures }

pub returns : goal.returns
returns g c =
    let memory =
    c.in_ok-memory.ensures ∙ ap (λ b. memory_with_data b c.layout.result.memory c.args.p.now.bytes) c.layout.ensures.base
    ∙ ap (λ n. memory_with_data c.args.m.now.base n c.args.p.now.bytes) c.layout.ensures.memory in
    loaded g.W.Word.BITS c.args.m.now c.args.p.now _ c.requires.loadable c.in_ok-code.ensures.code refl refl memory refl c.new.ensures refl refl
