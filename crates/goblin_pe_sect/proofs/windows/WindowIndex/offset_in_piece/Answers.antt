use Rattle.std.proofs.Common.{◌-◌, ◌<◌, ◌≡◌, length, ◌∙◌, arith}
use Rattle.goblin_pe_sect.specs.WindowIndex.{owners_of}
use Rattle.goblin_pe_sect.proofs.WindowPieces.{last_owner_read, length-owners, located-piece, owner_read, piece_answers, piece_within}
use Rattle.goblin_pe_sect.proofs.windows.WindowIndex.offset_in_piece.Goals as goal

pub index-requires : goal.index-requires
index-requires c =
    let within : c.args.count - 1 < length (owners_of c.self.inside.pieces.items) = piece_within _ _ _ _ c.self.view_is c.self.invariant c.args.rva c.args.count c.requires.counted c.requires.some in
    omega (arith, within, length-owners c.self.inside.pieces.items)

pub overflow_sub-result : goal.overflow_sub-result
overflow_sub-result c =
    let here = piece_answers _ _ _ _ c.self.view_is c.self.invariant c.args.rva c.args.count c.requires.counted c.requires.some c.in_ok-owner.owner (λ within. owner_read c.self.inside.pieces.items (c.args.count - 1) c.index.result.now within c.index.ensures ∙ c.in_ok-owner.was) in
    here.0

pub overflow_add-result : goal.overflow_add-result
overflow_add-result c =
    let here = piece_answers _ _ _ _ c.self.view_is c.self.invariant c.args.rva c.args.count c.requires.counted c.requires.some c.in_ok-owner.owner (λ within. owner_read c.self.inside.pieces.items (c.args.count - 1) c.index.result.now within c.index.ensures ∙ c.in_ok-owner.was) in
    omega (arith, here.1)

pub returns-in_err-owner : goal.returns-in_err-owner
returns-in_err-owner c =
    let within = piece_within _ _ _ _ c.self.view_is c.self.invariant c.args.rva c.args.count c.requires.counted c.requires.some in
    rw (last_owner_read _ _ c.self.inside.pieces.items _ c.self.view_is c.args.count c.index.result.now c.requires.some within c.index.ensures, c.in_err-owner.was) c.from_residual.ensures ∙ located-piece _ _ _ _ c.self.view_is c.args.rva _ c.requires.counted c.self.invariant (λ (none : c.args.count ≡ 0). omega (arith, none, c.requires.some))

pub returns : goal.returns
returns c =
    let here = piece_answers _ _ _ _ c.self.view_is c.self.invariant c.args.rva c.args.count c.requires.counted c.requires.some c.in_ok-owner.owner (λ within. owner_read c.self.inside.pieces.items (c.args.count - 1) c.index.result.now within c.index.ensures ∙ c.in_ok-owner.was) in
    here.2 ∙ located-piece _ _ _ _ c.self.view_is c.args.rva _ c.requires.counted c.self.invariant (λ (none : c.args.count ≡ 0). omega (arith, none, c.requires.some))
