-- Versions of a policy's text.
use Rattle.std.specs.Prelude.{Bool, true, false}
use Rattle.pol_pattern.specs.declared.version.Version.{Version}
use Rattle.pol_pattern.specs.declared.version.Version.TheVariants as patterns
use Rattle.pol_text.specs.declared.version.TextVersion.{TextVersion}
use Rattle.pol_text.specs.declared.version.TextVersion.TheVariants.{One, Two, Three}

-- the version of the patterns in a text: version 3 has those of version 2
abbrev pub patterns_of : TextVersion → Version
patterns_of One = patterns.One
patterns_of Two = patterns.Two
patterns_of Three = patterns.Two

-- whether secrets may be hashes in a text of this version
abbrev pub has_hashes : TextVersion → Bool
has_hashes One = false
has_hashes Two = false
has_hashes Three = true

-- whether a text of this version may have lines about services
abbrev pub has_services : TextVersion → Bool
has_services One = false
has_services Two = false
has_services Three = true
