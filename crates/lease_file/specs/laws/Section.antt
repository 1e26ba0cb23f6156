-- Laws: the formats of both sections are lawful: what is read is what would be written, and what is written is read again.
use Rattle.std.specs.Prelude.{[], refl}
use Rattle.address_set.specs.AddressSet.{rises}
use Rattle.format.specs.Format.{counted, octet}
use Rattle.format.specs.Section.{ordered_from}
use Rattle.format.specs.laws.Format.{Lawful, both_lawful, counted_lawful, number_lawful, octet_lawful, only_lawful, viewed_lawful}
use Rattle.lease_file.specs.Section.{hold_after, hold_format, hold_key, holds_format, lease_after, lease_format, lease_key, leases_format}

octets_lawful : Lawful (counted octet)
octets_lawful = counted_lawful octet_lawful

pub lease_lawful : Lawful lease_format
lease_lawful =
    viewed_lawful
    (both_lawful octet_lawful (both_lawful octet_lawful (both_lawful octets_lawful (both_lawful octet_lawful
    (both_lawful number_lawful (both_lawful number_lawful (both_lawful number_lawful (only_lawful octets_lawful rises)))))))) _ _ (λ x. refl) (λ y. refl)

pub hold_lawful : Lawful hold_format
hold_lawful = viewed_lawful (both_lawful lease_lawful number_lawful) _ _ (λ x. refl) (λ y. refl)

pub leases_lawful : Lawful leases_format
leases_lawful = only_lawful (counted_lawful lease_lawful) (ordered_from lease_key lease_after (0, []))

pub holds_lawful : Lawful holds_format
holds_lawful = only_lawful (counted_lawful hold_lawful) (ordered_from hold_key hold_after (0, []))
