-- Laws: the section's format is lawful: what is read is what would be written, and what is written is read again.
use Rattle.std.specs.Prelude.{refl}
use Rattle.format.specs.Section.{ordered_from}
use Rattle.format.specs.laws.Format.{Lawful, both_lawful, counted_lawful, number_lawful, octet_lawful, only_lawful, viewed_lawful}
use Rattle.release_file.specs.Section.{release_after, release_format, release_key, releases_format}

pub release_lawful : Lawful release_format
release_lawful = viewed_lawful (both_lawful octet_lawful (both_lawful (counted_lawful octet_lawful) (both_lawful number_lawful number_lawful))) _ _ (λ x. refl) (λ y. refl)

pub releases_lawful : Lawful releases_format
releases_lawful = only_lawful (counted_lawful release_lawful) (ordered_from release_key release_after (0, 0))
