-- A slice of a file.
use Rattle.std.specs.Prelude.{ℕ, List}
use Rattle.goblin_pe_c_headers.specs.declared.image.PeSlice.{PeSlice}
pub use Rattle.goblin_pe_c_headers.specs.declared.image.PeImage.{PeImage}

abbrev pub slice_model : PeSlice → List ℕ
slice_model text = text.bytes.now
