mod Opened
mod Lines
mod Shown
