use Rattle.std.proofs.Common.{◌≡◌, [], length, map, ap, ◌∙◌, arith}
use Rattle.naive_code.specs.Storage.{arrays_from}
use Rattle.naive_expr.specs.Seen.{storage_of}
use Rattle.naive_expr.specs.Tables.{locals_from}
use Rattle.naive_expr.proofs.Keeping.{site_is}
use Rattle.naive_expr.proofs.sites.Site.enter.Goals as goal

pub returns-clause-site : goal.returns-clause-site
returns-clause-site c = λ w t h.
    let f = c.args.f.now in
    let temp : c.in-Ok.temp ≡ length f.params = omega (arith, c.in-Ok.ensures, c.len.ensures) in
    let arrays : c.args.arrays ≡ arrays_from [] w f = c.requires ∙ ap (λ b. arrays_from [] b f) h.bits in
    let locals : map storage_of c.in_ok-self.field-0 ≡ locals_from w (length f.params) (arrays_from [] w f) f.locals =
    c.in_ok-self.ensures ∙ (ap (λ b. locals_from b c.in-Ok.temp c.args.arrays c.as_slice.result.now) h.bits
    ∙ (ap (λ k. locals_from w k c.args.arrays c.as_slice.result.now) temp
    ∙ (ap (λ k. locals_from w (length f.params) k c.as_slice.result.now) arrays ∙ ap (locals_from w (length f.params) (arrays_from [] w f)) c.as_slice.ensures))) in
    site_is w t f (record { bits = c.args.self.now.bits; statics = c.args.self.now.statics; locals = c.in_ok-self.field-0 }) h.bits h.statics_are locals
