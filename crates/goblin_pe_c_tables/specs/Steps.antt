-- The steps of a call.
use Rattle.std.specs.Prelude.{◌≡◌, ℕ, ◌+◌, ◌-◌, ◌*◌, ◌/◌, ◌==◌, ◌&&◌, max, not, if◌then◌else◌}
use Rattle.goblin_pe_c_headers.specs.Faults.{fault, no_fault, options_fault}
use Rattle.goblin_pe_c_headers.specs.declared.fault.PeFault.{PeFault}
use Rattle.goblin_pe_c_headers.specs.declared.image.PeImage.{PeImage}

-- the first of two faults, if there is one
abbrev pub or_fault : PeFault → PeFault → PeFault
or_fault first second = if first.status == 0 then second else first

-- that no steps are left, if there is room
abbrev pub steps_fault : ℕ → ℕ → PeFault
steps_fault room steps = if not (room == 0) && (steps == 0) then fault 7 0 0 0 else no_fault

-- why a walk that counts steps is refused before it begins
abbrev pub walk_fault : PeImage → ℕ → ℕ → PeFault
walk_fault image room steps = or_fault (options_fault image.options) (steps_fault room steps)

-- how many steps a look takes: one for each 96 sections, or part of 96, and at least one
abbrev pub look_price : PeImage → ℕ
look_price image = (image.section_count - 1) / 96 + 1

-- how many looks a call with these steps may make: at least one
abbrev pub looks_for : PeImage → ℕ → ℕ
looks_for image steps = max 1 (steps / look_price image)

-- the steps that are left when `left` of these looks are
abbrev pub steps_after : PeImage → ℕ → ℕ → ℕ
steps_after image steps left = steps - look_price image * (looks_for image steps - left)

-- A call spends steps. This is said of how many looks it may make, and how many of these are left.
abbrev pub SpendsSteps : PeImage → ℕ → ℕ → (ℕ → ℕ → Type 0) → Type 0
SpendsSteps image before after Says =
    (left : ℕ) × (after ≡ steps_after image before left) × Says (looks_for image before) left
