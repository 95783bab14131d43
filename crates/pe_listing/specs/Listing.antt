-- The listing of a file, if there is one.
use Rattle.std.specs.Prelude.{ℕ, List}
use Rattle.goblin_pe.specs.declared.options.ParseMode.{ParseMode}
use Rattle.goblin_pe.specs.declared.options.ParseOptions.{ParseOptions}
use Rattle.goblin_pe.specs.sect.Options.{default_options}
use Rattle.goblin_pe.specs.base.Reading.{Reading}
use Rattle.goblin_pe.specs.readings.Reads.{mapped}
use Rattle.goblin_pe.specs.Whole.{whole_file}
use Rattle.pe_listing.specs.Lines.{whole_lines}

-- the options of a run: the default ones, in its mode
abbrev pub run_options : ParseMode → ParseOptions
run_options mode = record default_options { parse_mode = mode }

-- the listing of a file: the lines of the whole file
abbrev pub listing_of : ParseMode → Reading (List ℕ)
listing_of mode = mapped whole_lines (whole_file (run_options mode))
