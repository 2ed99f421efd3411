pub mod SortedByCalls
