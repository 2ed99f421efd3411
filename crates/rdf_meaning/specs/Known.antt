-- The IRIs of the datatypes that have values (XML Schema 1.1, part 2, section 3).
use Rattle.std.specs.Prelude.{ℕ, List, codes}
use Rattle.rdf_meaning.specs.declared.text.KnownDatatype.{KnownDatatype}
use Rattle.rdf_meaning.specs.declared.text.KnownDatatype.TheVariants.{String, Boolean, Decimal, Integer, Long, Int, Short, Byte, UnsignedLong, UnsignedInt, UnsignedShort, UnsignedByte, NonNegativeInteger, PositiveInteger, NonPositiveInteger, NegativeInteger, DateTime}

abbrev pub known_bytes : KnownDatatype → List ℕ
known_bytes String = codes "http://www.w3.org/2001/XMLSchema#string"
known_bytes Boolean = codes "http://www.w3.org/2001/XMLSchema#boolean"
known_bytes Decimal = codes "http://www.w3.org/2001/XMLSchema#decimal"
known_bytes Integer = codes "http://www.w3.org/2001/XMLSchema#integer"
known_bytes Long = codes "http://www.w3.org/2001/XMLSchema#long"
known_bytes Int = codes "http://www.w3.org/2001/XMLSchema#int"
known_bytes Short = codes "http://www.w3.org/2001/XMLSchema#short"
known_bytes Byte = codes "http://www.w3.org/2001/XMLSchema#byte"
known_bytes UnsignedLong = codes "http://www.w3.org/2001/XMLSchema#unsignedLong"
known_bytes UnsignedInt = codes "http://www.w3.org/2001/XMLSchema#unsignedInt"
known_bytes UnsignedShort = codes "http://www.w3.org/2001/XMLSchema#unsignedShort"
known_bytes UnsignedByte = codes "http://www.w3.org/2001/XMLSchema#unsignedByte"
known_bytes NonNegativeInteger = codes "http://www.w3.org/2001/XMLSchema#nonNegativeInteger"
known_bytes PositiveInteger = codes "http://www.w3.org/2001/XMLSchema#positiveInteger"
known_bytes NonPositiveInteger = codes "http://www.w3.org/2001/XMLSchema#nonPositiveInteger"
known_bytes NegativeInteger = codes "http://www.w3.org/2001/XMLSchema#negativeInteger"
known_bytes DateTime = codes "http://www.w3.org/2001/XMLSchema#dateTime"
