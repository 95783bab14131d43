use Rattle.std.proofs.Common.{Some, None, sym, ap, ◌∙◌, arith, option_map}
use Rattle.std.proofs.lemmas.Str.Pattern.{split_once_first, strip_prefix_char}
use Rattle.goblin_pe_export.specs.Forwarders.Forwarder.{ByOrdinal}
use Rattle.goblin_pe_export.proofs.Grammar.{forwarder-parts, nothing-after, forwarder-missing, export-numbered, export-named, no-hash, no-length, some-length, not_longer}
use Rattle.goblin_pe_export.proofs.export.forwarder.Reexport.of_text.Goals as goal

-- a text without a dot
pub returns-in_default : goal.returns-in_default
returns-in_default c =
    let none = nothing-after c.args.text.now (split_once_first 46 c.args.text.now None c.in_default.ensures.cases (omega arith)) in
    (not_longer _ _ _ c.if-is_longer.false (forwarder-missing c.args.text.now none), none)

pub returns-in-Some-ordinal_of : goal.returns-in-Some-ordinal_of
returns-in-Some-ordinal_of c =
    let parts = split_once_first 46 c.args.text.now (Some (c.in-Some.lib, c.in-Some.tail)) c.in-Some.ensures.cases (omega arith) in
    let hash = strip_prefix_char 35 c.in-Some.tail.now (Some c.in-Some-strip_prefix.digits) c.in-Some-strip_prefix.ensures.cases (omega arith) in
    not_longer _ _ _ c.if-is_longer-2.false
    (forwarder-parts c.args.text.now c.in-Some.lib.now c.in-Some.tail.now parts.1 parts.2
    ∙ export-numbered c.in-Some.lib.now c.in-Some.tail.now c.in-Some-strip_prefix.digits.now hash
    ∙ ap (option_map (λ n. ByOrdinal n c.in-Some.lib.now)) (sym c.in-Some-ordinal_of.ensures))

pub returns-in-None : goal.returns-in-None
returns-in-None c =
    let parts = split_once_first 46 c.args.text.now (Some (c.in-Some.lib, c.in-Some.tail)) c.in-Some.ensures.cases (omega arith) in
    let hash = strip_prefix_char 35 c.in-Some.tail.now (Some c.in-Some-strip_prefix.digits) c.in-Some-strip_prefix.ensures.cases (omega arith) in (
      not_longer _ _ _ c.if-is_longer-2.false
          (forwarder-parts c.args.text.now c.in-Some.lib.now c.in-Some.tail.now parts.1 parts.2
          ∙ export-numbered c.in-Some.lib.now c.in-Some.tail.now c.in-Some-strip_prefix.digits.now hash
          ∙ ap (option_map (λ n. ByOrdinal n c.in-Some.lib.now)) (sym c.in-None.ensures)),
      (c.in-Some-strip_prefix.digits.now, sym parts.2 ∙ hash, sym c.in-None.ensures),
    )

pub returns-then-is_empty : goal.returns-then-is_empty
returns-then-is_empty c =
    let parts = split_once_first 46 c.args.text.now (Some (c.in-Some.lib, c.in-Some.tail)) c.in-Some.ensures.cases (omega arith) in
    let none = sym parts.2 ∙ no-length c.in-Some.tail.now (sym c.is_empty.ensures ∙ c.if-is_empty.true) in
    (not_longer _ _ _ c.if-is_longer-2.false (forwarder-missing c.args.text.now none), none)

pub returns : goal.returns
returns c =
    let parts = split_once_first 46 c.args.text.now (Some (c.in-Some.lib, c.in-Some.tail)) c.in-Some.ensures.cases (omega arith) in
    let hash = strip_prefix_char 35 c.in-Some.tail.now None c.in_default-strip_prefix.ensures.cases (omega arith) in
    not_longer _ _ _ c.if-is_longer-2.false
    (forwarder-parts c.args.text.now c.in-Some.lib.now c.in-Some.tail.now parts.1 parts.2
    ∙ export-named c.in-Some.lib.now c.in-Some.tail.now (some-length c.in-Some.tail.now (sym c.is_empty.ensures ∙ c.if-is_empty.false)) (no-hash c.in-Some.tail.now hash))
