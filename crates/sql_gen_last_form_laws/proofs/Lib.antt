pub mod LastForms
