mod Ends
mod First
mod Lists
mod Rows
mod Specimens
